-- What the calls on Init messages give back, in plain numbers.
use Rattle.std.specs.Prelude.{ℕ, ◌≡◌, List, Bool}
use Rattle.eno.specs.Option.{Writing, wrote, Written}
use Rattle.eno.specs.Option as o
use Rattle.init_layout.specs.Reading.{Says, took, refused_with, Reading}
use Rattle.init_layout.specs.declared.Enabled.{Enabled}
use Rattle.host_reply.specs.Numbers.{of_kind}
use Rattle.host_reply.specs.declared.ReplyNumbers.{ReplyNumbers}
use Rattle.host_init_numbers.specs.declared.InitNumbers.{InitNumbers}

-- the ciphers that this end has enabled
abbrev pub enabled_as : (aes128 aes256 chacha20 : Bool) → Enabled
enabled_as a b c = record { aes128 = a; aes256 = b; chacha20 = c }

-- what a writer says: bytes written, or a refusal's number
unfoldable pub writing_numbers : Writing → ReplyNumbers
writing_numbers (wrote n) = of_kind 1 n
writing_numbers (o.refused_with n) = of_kind 0 n

-- a writer's reply, and the lent buffer afterwards
abbrev pub GivesInit : ReplyNumbers → (lent : List ℕ) → Written → Type 0
GivesInit r lent w = (r ≡ writing_numbers w.says) × (lent ≡ w.buffer)

abbrev pub refused_init : ℕ → (nonce key : List ℕ) → InitNumbers
refused_init n nonce key = record { number = n; count = 0; cipher = 0; kind = 0; nonce = nonce; key = key }

-- what a reader says, with nonce and key beside it
unfoldable pub says_numbers : Says → (nonce key : List ℕ) → InitNumbers
says_numbers (took cipher count n) nonce key = record { number = n; count = count; cipher = cipher; kind = 10; nonce = nonce; key = key }
says_numbers (refused_with n) nonce key = refused_init n nonce key

unfoldable pub init_numbers : Reading → InitNumbers
init_numbers r = says_numbers r.says r.nonce r.key
