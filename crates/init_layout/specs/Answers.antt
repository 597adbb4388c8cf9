-- The answers of writers and readers, in document 01's numbers.
use Rattle.std.specs.Prelude.{ℕ, Result, Ok, Err}
use Rattle.eno.specs.Option.{Writing, wrote}
use Rattle.eno.specs.Option as o
use Rattle.init_layout.specs.Reading.{Says, took, refused_with, Reading, reading_as, zeros}
use Rattle.init_layout.specs.declared.InitWriteRefusal.{InitWriteRefusal}
use Rattle.init_layout.specs.declared.InitWriteRefusal.TheVariants as w
use Rattle.init_layout.specs.declared.InitMessage.{InitMessage}
use Rattle.init_layout.specs.declared.InitRefusal.{InitRefusal}
use Rattle.init_layout.specs.declared.InitRefusal.TheVariants as a

-- how many bytes were written; 3 for arguments that do not fit, 5 for a lent buffer that is too short
abbrev pub writing_of : Result ℕ InitWriteRefusal → Writing
writing_of (Ok n) = wrote n
writing_of (Err w.Unfit) = o.refused_with 3
writing_of (Err w.NoRoom) = o.refused_with 5

-- the cipher taken, the count of ciphers and the length of the message; 3 for arguments that do not fit, 8 for bytes that no continuation
-- makes readable, 9 where bytes are missing, 10 where no cipher is common
abbrev pub says_of : Result InitMessage InitRefusal → Says
says_of (Ok m) = took m.cipher m.count m.length
says_of (Err a.Unfit) = refused_with 3
says_of (Err a.Unreadable) = refused_with 8
says_of (Err a.Incomplete) = refused_with 9
says_of (Err a.NoCommonCipher) = refused_with 10

-- that, and nonce and key beside it, or zeros beside a refusal
abbrev pub reading_of : Result InitMessage InitRefusal → Reading
reading_of (Ok m) = reading_as (took m.cipher m.count m.length) m.nonce m.key
reading_of (Err e) = reading_as (says_of (Err e)) (zeros 32) (zeros 56)
