pub mod SoundIf
