-- An end's setting in a capture: one byte of bits, one byte counting TEPs, the TEPs, and the record in hand.
use Rattle.std.specs.Prelude.{ℕ, ◌+◌, ◌/◌, ◌%◌, List, [], ◌∷◌, ◌++◌, Bool, true, false, cond, not, ◌&&◌, ◌||◌, ltb, leb, eqb, length, get_or}
use Rattle.std.proofs.Math.Option.{Option, none, some}
use Rattle.wire.specs.Bytes.{part}
use Rattle.eno.specs.Tep.{is_known}
use Rattle.eno.specs.Area.{Finding, refused, unreadable, missing, found, finding, syn_option}
use Rattle.eno.specs.Suboption.{suboptions, is_ill_formed}
use Rattle.eno.specs.Judge.{role_of, aware_of}
use Rattle.eno.specs.declared.SessionRecord.{SessionRecord}
use Rattle.door.specs.Offer.{terms_fit}

-- what a setting says
pub record SettingValue : Type 0 where
  pub b : ℕ
  pub aware : Bool
  pub mandatory : Bool
  pub teps : List ℕ
  pub hand : Option SessionRecord

-- a bit with its weight
abbrev pub bit_with : ℕ → Bool → ℕ
bit_with w x = cond x w 0

abbrev pub is_some : Option SessionRecord → Bool
is_some none = false
is_some (some r) = true

-- bit 0 b, 1 a, 2 mandatory-aware, 3 record in hand, others zero
unfoldable pub setting_bits : ℕ → (aware mandatory held : Bool) → ℕ
setting_bits b aware mandatory held = b + bit_with 2 aware + bit_with 4 mandatory + bit_with 8 held

-- the record: TEP, role, identifier, secret
unfoldable pub record_bytes : Option SessionRecord → List ℕ
record_bytes none = []
record_bytes (some r) = r.tep ∷ r.role ∷ (r.identifier ++ r.secret)

unfoldable pub encode_setting : SettingValue → List ℕ
encode_setting x = setting_bits x.b x.aware x.mandatory (is_some x.hand) ∷ length x.teps ∷ (x.teps ++ record_bytes x.hand)

-- the record that stands at place i
unfoldable pub record_at : List ℕ → ℕ → SessionRecord
record_at s i = record { tep = get_or s i 0; role = get_or s (i + 1) 0; identifier = part (i + 2) 18 s; secret = part (i + 20) 32 s }

-- bit 3 of the first byte
abbrev pub is_held : List ℕ → Bool
is_held s = eqb (get_or s 0 0 / 8 % 2) 1

-- how many bytes the first two bytes ask for
unfoldable pub setting_length : List ℕ → ℕ
setting_length s = 2 + get_or s 1 0 + bit_with 52 (is_held s)

-- encoded well: both first bytes there, bits 4 to 7 zero, and no byte more or less
unfoldable pub is_setting : List ℕ → Bool
is_setting s = leb 2 (length s) && ltb (get_or s 0 0) 16 && eqb (length s) (setting_length s)

-- the values at their places
unfoldable pub value_in : List ℕ → SettingValue
value_in s = record {
  b = get_or s 0 0 % 2;
  aware = eqb (get_or s 0 0 / 2 % 2) 1;
  mandatory = eqb (get_or s 0 0 / 4 % 2) 1;
  teps = part 2 (get_or s 1 0) s;
  hand = cond (is_held s) (some (record_at s (2 + get_or s 1 0))) none;
}

-- a setting read; none where it is badly encoded
unfoldable pub setting_of : List ℕ → Option SettingValue
setting_of s = cond (is_setting s) (some (value_in s)) none

-- a record has a TEP that the unit knows, and role 0 or 1
unfoldable pub is_record : Option SessionRecord → Bool
is_record none = true
is_record (some r) = is_known r.tep && leb r.role 1

abbrev pub is_found : Finding → Bool
is_found refused = false
is_found (unreadable f) = false
is_found missing = false
is_found (found i n) = true

-- b or a unlike that of its own option, found by the SYN rule, where that is well-formed
unfoldable pub is_unlike : ℕ → Bool → List ℕ → Bool
is_unlike b aware area =
    let o = syn_option area in
    is_found (finding area true) && not (is_ill_formed (suboptions o)) && not (eqb (role_of o) b && eqb (aware_of o) (bit_with 1 aware))

-- 21 of a setting that is encoded well: met by number 3, or unlike
unfoldable pub is_refused : SettingValue → List ℕ → Bool
is_refused x area = not (terms_fit x.aware x.mandatory x.teps []) || not (is_record x.hand) || is_unlike x.b x.aware area

abbrev pub refused_or : Option SettingValue → List ℕ → Bool
refused_or none area = true
refused_or (some x) area = is_refused x area

-- 21 of any bytes beside their own option area
unfoldable pub is_unfit : (setting area : List ℕ) → Bool
is_unfit s area = refused_or (setting_of s) area

-- what a judge takes from a setting: mandatory-aware and the record in hand, neither where it is badly encoded
unfoldable pub mandatory_in : Option SettingValue → Bool
mandatory_in none = false
mandatory_in (some x) = x.mandatory

unfoldable pub hand_in : Option SettingValue → Option SessionRecord
hand_in none = none
hand_in (some x) = x.hand
