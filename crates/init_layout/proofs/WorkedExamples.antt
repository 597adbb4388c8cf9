-- Init1 bytes at hand for TEP 23 and the number that they are refused with: 8 against 9, and 10 after a full reading.
use Rattle.std.specs.Prelude.{◌≡◌, refl, ◌∷◌, map, true}
use Rattle.std.proofs.Math.Option.{some}
use Rattle.wire.specs.Bytes.{bytes_from, same_bytes}
use Rattle.wire.specs.Number.{number, number_after, number_at}
use Rattle.eno.specs.Tep.{key_length}
use Rattle.init_layout.specs.Layout.{magic_of, most_length}
use Rattle.init_layout.specs.Reading.{agrees, length_at, count_at, ciphers_from, nonce_from, fields_end, standing, void_from, void_at, standing_of, ciphers_at, first_that, is_enabled, zeros, refused_reading, with_cipher, taken_from, read_as, reading, read_for, read_init1}
use Rattle.init_layout.specs.Numbered.{says_number}
use Rattle.init_layout.specs.declared.Enabled.{Enabled}
use Rattle.init_layout.specs.WorkedExamples.{table}

abbrev all_enabled : Enabled
all_enabled = record { aes128 = true; aes256 = true; chacha20 = true }

pub worked_examples : map (λ r. says_number (read_init1 0x23 all_enabled r.0).says) table ≡ map (λ r. some r.1) table
unfolding bytes_from same_bytes number number_after number_at key_length magic_of most_length agrees length_at count_at ciphers_from nonce_from fields_end standing void_from void_at standing_of ciphers_at first_that is_enabled zeros refused_reading with_cipher taken_from read_as reading read_for read_init1
worked_examples = refl
