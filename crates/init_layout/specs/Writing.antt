-- What the writers of Init1 and Init2 do.
use Rattle.std.specs.Prelude.{ℕ, List, Bool, cond, not, ◌&&◌, ltb, leb, eqb, length}
use Rattle.wire.specs.Bytes.{pasted}
use Rattle.eno.specs.Tep.{key_length}
use Rattle.eno.specs.Option.{Written, written_as, wrote, refused_with}
use Rattle.init_layout.specs.Layout.{is_void, init1_bytes, init2_bytes}

-- a TEP whose Init is written here, a nonce of 32 bytes, a key of the TEP's length
unfoldable pub parts_fit : ℕ → List ℕ → List ℕ → Bool
parts_fit t nonce key = not (eqb (key_length t) 0) && eqb (length nonce) 32 && eqb (length key) (key_length t)

-- a list of ciphers that is written: 1 to 255, none of them 0000
unfoldable pub ciphers_fit : List ℕ → Bool
ciphers_fit ciphers = leb 1 (length ciphers) && leb (length ciphers) 255 && not (is_void ciphers)

-- 3 where the arguments do not fit, 5 where the lent buffer is shorter than the message; else the message, and the rest of the buffer as it was
unfoldable pub write_message : Bool → List ℕ → List ℕ → Written
write_message fit o s =
    cond (not fit) (written_as (refused_with 3) s)
    (cond (ltb (length s) (length o)) (written_as (refused_with 5) s)
    (written_as (wrote (length o)) (pasted s 0 o)))

unfoldable pub write_init1 : ℕ → List ℕ → List ℕ → List ℕ → List ℕ → Written
write_init1 t ciphers nonce key s = write_message (parts_fit t nonce key && ciphers_fit ciphers) (init1_bytes ciphers nonce key) s

unfoldable pub write_init2 : ℕ → ℕ → List ℕ → List ℕ → List ℕ → Written
write_init2 t cipher nonce key s = write_message (parts_fit t nonce key && not (eqb cipher 0x0000)) (init2_bytes cipher nonce key) s
