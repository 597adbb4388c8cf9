-- The ciphers that this end has enabled, one flag each.
use Rattle.std.specs.Prelude.{Bool}
use Rattle.init_layout.specs.declared.Enabled.{Enabled}

abbrev pub enabled_as : (aes128 aes256 chacha20 : Bool) → Enabled
enabled_as a b c = record { aes128 = a; aes256 = b; chacha20 = c }
