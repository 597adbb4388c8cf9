-- The plain numbers that the replies of all calls share.
use Rattle.std.specs.Prelude.{ℕ, zero, suc, ◌≡◌, refl, Bool, true, false}
use Rattle.eno.specs.Judge.{Way, fresh, resumed}
use Rattle.eno.specs.declared.Cause.{Cause}
use Rattle.host_reply.specs.declared.ReplyNumbers.{ReplyNumbers}

-- a reply without role, TEP and way
abbrev pub with_place : (kind number place option : ℕ) → ReplyNumbers
with_place k n i o = record { number = n; kind = k; role = 0; tep = 0; resumed = 0; place = i; option = o }

-- a reply of one number
abbrev pub of_kind : (kind number : ℕ) → ReplyNumbers
of_kind k n = with_place k n 0 0

-- plain TCP: its reason, with place and kind of an unreadable area
abbrev pub plain_numbers : Cause → ReplyNumbers
plain_numbers c = with_place 2 c.reason c.place c.kind

-- the finder's word of an unreadable area, with its place and kind
abbrev pub broken_numbers : (place kind : ℕ) → ReplyNumbers
broken_numbers i k = with_place 9 0 i k

-- 1 where a flag stands
abbrev pub flag_number : Bool → ℕ
flag_number false = 0
flag_number true = 1

-- 1 where a session is resumed
abbrev pub way_number : Way → ℕ
way_number fresh = 0
way_number resumed = 1

-- and back
abbrev pub way_of : ℕ → Way
way_of zero = fresh
way_of (suc n) = resumed

pub way_back : (w : Way) → way_of (way_number w) ≡ w
way_back fresh = refl
way_back resumed = refl
