-- The tables while they are filled.
use Rattle.std.specs.Prelude.{◌*◌, ◌≤◌, ◌≡◌, length}
use Rattle.model.specs.Limits.{most_rules, rule_width, most_kinds, kind_width, most_rights, right_width}
use Rattle.model.specs.Values.{Tables}
use Rattle.load.specs.declared.Tables.{Tables as Filled}
use Rattle.load.specs.Loading.{tables_of}

-- the rows so far
abbrev pub tables_in : Filled → Tables
tables_in t = tables_of t.rules.now t.kinds.now t.rights.now t.counts

-- each table has room for its most rows, and no more rows than these
pub record Fits (t : Filled) : Type 0 where
  pub rules_size : length t.rules.now ≡ most_rules * rule_width
  pub kinds_size : length t.kinds.now ≡ most_kinds * kind_width
  pub rights_size : length t.rights.now ≡ most_rights * right_width
  pub rules_room : t.counts.rules ≤ most_rules
  pub kinds_room : t.counts.kinds ≤ most_kinds
  pub rights_room : t.counts.rights ≤ most_rights

-- the numbers that are lent are those that were
pub record SameTables (t t' : Filled) : Type 0 where
  pub rules : t'.rules.ghost_name ≡ t.rules.ghost_name
  pub kinds : t'.kinds.ghost_name ≡ t.kinds.ghost_name
  pub rights : t'.rights.ghost_name ≡ t.rights.ghost_name
