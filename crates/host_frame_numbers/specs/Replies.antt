-- What the calls on frames give back, in plain numbers.
use Rattle.std.specs.Prelude.{ℕ, ◌≡◌, List}
use Rattle.frame_layout.specs.Outcome.{Reply, refused, begins, header, made, written, plaintext, Outcome}
use Rattle.host_reply.specs.Numbers.{of_kind, flag_number}
use Rattle.host_reply.specs.declared.ReplyNumbers.{ReplyNumbers}
use Rattle.host_frame_numbers.specs.declared.HeaderNumbers.{HeaderNumbers}
use Rattle.host_frame_numbers.specs.declared.FrameId.{FrameId}
use Rattle.host_frame_numbers.specs.declared.NonceNumbers.{NonceNumbers}
use Rattle.host_frame_numbers.specs.declared.PlaintextNumbers.{PlaintextNumbers}

-- kind and number of a reply: a refusal's number, the offset after the frame, bytes written, or where the data begin
unfoldable pub frame_numbers : Reply → ReplyNumbers
frame_numbers (refused n) = of_kind 0 n
frame_numbers (begins next) = of_kind 11 next
frame_numbers (header rekey clen next) = of_kind 12 next
frame_numbers made = of_kind 13 0
frame_numbers (written n) = of_kind 1 n
frame_numbers (plaintext fin urg urgent at) = of_kind 14 at

-- a writer's reply, and the lent buffer afterwards
abbrev pub GivesFrame : ReplyNumbers → (lent : List ℕ) → Outcome → Type 0
GivesFrame r lent o = (r ≡ frame_numbers o.reply) × (lent ≡ o.buffer)

-- a reply that is no header: kind and number alone
abbrev pub bare_header : ReplyNumbers → (associated : List ℕ) → HeaderNumbers
bare_header r s = record { number = r.number; clen = 0; kind = r.kind; rekey = 0; associated = s }

unfoldable pub header_with : Reply → (associated : List ℕ) → HeaderNumbers
header_with (header rekey clen next) s = record { number = next; clen = clen; kind = 12; rekey = flag_number rekey; associated = s }
header_with (refused n) s = bare_header (frame_numbers (refused n)) s
header_with (begins next) s = bare_header (frame_numbers (begins next)) s
header_with made s = bare_header (frame_numbers made) s
header_with (written n) s = bare_header (frame_numbers (written n)) s
header_with (plaintext fin urg urgent at) s = bare_header (frame_numbers (plaintext fin urg urgent at)) s

unfoldable pub header_numbers : Outcome → HeaderNumbers
header_numbers o = header_with o.reply o.bytes

abbrev pub id_of : List ℕ → FrameId
id_of s = record { bytes = s }

abbrev pub nonce_with : ReplyNumbers → (nonce : List ℕ) → NonceNumbers
nonce_with r s = record { number = r.number; kind = r.kind; nonce = s }

unfoldable pub nonce_numbers : Outcome → NonceNumbers
nonce_numbers o = nonce_with (frame_numbers o.reply) o.bytes

-- a reply that is no plaintext: kind and number alone
abbrev pub bare_plaintext : ReplyNumbers → PlaintextNumbers
bare_plaintext r = record { number = r.number; urgent = 0; kind = r.kind; fin = 0; urg = 0 }

unfoldable pub plaintext_with : Reply → PlaintextNumbers
plaintext_with (plaintext fin urg urgent at) = record { number = at; urgent = urgent; kind = 14; fin = flag_number fin; urg = flag_number urg }
plaintext_with (refused n) = bare_plaintext (frame_numbers (refused n))
plaintext_with (begins next) = bare_plaintext (frame_numbers (begins next))
plaintext_with (header rekey clen next) = bare_plaintext (frame_numbers (header rekey clen next))
plaintext_with made = bare_plaintext (frame_numbers made)
plaintext_with (written n) = bare_plaintext (frame_numbers (written n))

unfoldable pub plaintext_numbers : Outcome → PlaintextNumbers
plaintext_numbers o = plaintext_with o.reply
