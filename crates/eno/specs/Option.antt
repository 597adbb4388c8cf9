-- The option that is written: what was asked, encoded.
use Rattle.std.specs.Prelude.{ℕ, suc, ◌+◌, ◌*◌, List, [], ◌∷◌, ◌++◌, Bool, true, false, cond, not, ◌&&◌, ◌||◌, ltb, leb, eqb, length}
use Rattle.std.proofs.Math.Option.{Option, none, some}
use Rattle.wire.specs.Bytes.{pasted}
use Rattle.eno.specs.Area.{eno_kind}
use Rattle.eno.specs.Tep.{is_known}
use Rattle.eno.specs.Session.{sent_half}
use Rattle.eno.specs.declared.SessionRecord.{SessionRecord}

-- a suboption by its value: a global byte, or a TEP's byte with v and its data, perhaps behind a length byte
pub data Content : Type 0 where
  global_with : ℕ → Content
  tep_with : (counted : Bool) (byte : ℕ) (dat : List ℕ) → Content

-- its bytes
unfoldable pub encode : Content → List ℕ
encode (global_with x) = x ∷ []
encode (tep_with false x d) = x ∷ d
encode (tep_with true x d) = (length d + 0x7f) ∷ x ∷ d

unfoldable pub encode_all : List Content → List ℕ
encode_all [] = []
encode_all (c ∷ l) = encode c ++ encode_all l

-- 45, the length of the whole, the suboptions
unfoldable pub option_with : List Content → List ℕ
option_with l = eno_kind ∷ (length (encode_all l) + 2) ∷ encode_all l

-- b, and a with the weight 2
unfoldable pub global_of : ℕ → Bool → ℕ
global_of b aware = b + cond aware 2 0

-- the global byte if it is not zero
unfoldable pub global_part : ℕ → List Content
global_part g = cond (eqb g 0) [] (global_with g ∷ [])

unfoldable pub fresh_part : List ℕ → List Content
fresh_part [] = []
fresh_part (t ∷ l) = tep_with false t [] ∷ fresh_part l

-- the resumption suboption: the TEP with v, the half that this end sends, the nonce
unfoldable pub resumption_part : SessionRecord → List ℕ → Content
resumption_part r nonce = tep_with false (r.tep + 0x80) (sent_half r ++ nonce)

-- a list without t
unfoldable pub without : ℕ → List ℕ → List ℕ
without t [] = []
without t (x ∷ l) = cond (eqb x t) (without t l) (x ∷ without t l)

unfoldable pub is_listed : ℕ → List ℕ → Bool
is_listed t [] = false
is_listed t (x ∷ l) = eqb x t || is_listed t l

-- the TEPs that are sent fresh: all of the list but the resumed one
unfoldable pub fresh_teps : Option SessionRecord → List ℕ → List ℕ
fresh_teps none list = list
fresh_teps (some r) list = without r.tep list

unfoldable pub last_part : Option SessionRecord → List ℕ → List Content
last_part none nonce = []
last_part (some r) nonce = resumption_part r nonce ∷ []

-- an offered option: the global byte if it is not zero, fresh TEPs in list order without the resumed one, last the resumption suboption
unfoldable pub offered : ℕ → Bool → List ℕ → Option SessionRecord → List ℕ → List Content
offered b aware list hand nonce = global_part (global_of b aware) ++ (fresh_part (fresh_teps hand list) ++ last_part hand nonce)

-- an answered option: the global byte with b = 1, one suboption
unfoldable pub answered : Bool → ℕ → Option SessionRecord → List ℕ → List Content
answered aware t none nonce = global_with (global_of 1 aware) ∷ tep_with false t [] ∷ []
answered aware t (some r) nonce = global_with (global_of 1 aware) ∷ resumption_part r nonce ∷ []

-- each known, none repeated
unfoldable pub known_once : List ℕ → Bool
known_once [] = true
known_once (t ∷ l) = is_known t && not (is_listed t l) && known_once l

-- a TEP list: one to four, each known, none repeated
unfoldable pub is_tep_list : List ℕ → Bool
is_tep_list l = leb 1 (length l) && leb (length l) 4 && known_once l

-- a record in hand is of a listed TEP
unfoldable pub record_listed : Option SessionRecord → List ℕ → Bool
record_listed none l = true
record_listed (some r) l = is_listed r.tep l

-- role 0 or 1, a TEP list, a resumption nonce of at most 8 bytes
unfoldable pub offer_fits : ℕ → List ℕ → Option SessionRecord → List ℕ → Bool
offer_fits b list hand nonce = leb b 1 && is_tep_list list && leb (length nonce) 8 && record_listed hand list

unfoldable pub answer_fits : ℕ → Option SessionRecord → List ℕ → Bool
answer_fits t hand nonce = is_known t && leb (length nonce) 8 && record_listed hand (t ∷ [])

-- what a writer says: how many bytes it wrote, or the number of its refusal
pub data Writing : Type 0 where
  wrote : ℕ → Writing
  refused_with : ℕ → Writing

-- that, and the lent buffer afterwards
pub record Written : Type 0 where
  pub says : Writing
  pub buffer : List ℕ

abbrev pub written_as : Writing → List ℕ → Written
written_as w s = record { says = w; buffer = s }

-- 3 where the arguments do not fit, 5 where the lent buffer is shorter than the option; else the option, and the rest of the buffer as it was
unfoldable pub write_option : Bool → List Content → List ℕ → Written
write_option fits asked s =
    let o = option_with asked in
    cond (not fits) (written_as (refused_with 3) s)
    (cond (ltb (length s) (length o)) (written_as (refused_with 5) s)
    (written_as (wrote (length o)) (pasted s 0 o)))

unfoldable pub write_offer : ℕ → Bool → List ℕ → Option SessionRecord → List ℕ → List ℕ → Written
write_offer b aware list hand nonce s = write_option (offer_fits b list hand nonce) (offered b aware list hand nonce) s

unfoldable pub write_answer : Bool → ℕ → Option SessionRecord → List ℕ → List ℕ → Written
write_answer aware t hand nonce s = write_option (answer_fits t hand nonce) (answered aware t hand nonce) s
