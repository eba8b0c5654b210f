-- A list laid into another octet by octet is what `pasted` says where it fits, whole or in part; where not, `pasted` changes nothing.
-- Assumes nothing.
use mathlib.Core.Path.{◌≡◌, ap, ap₂, ◌∙◌}
use mathlib.Core.List.{List, ◌++◌}
use Prim.Native.Nat.{ℕ, ◌+◌, ◌≤◌, ◌<◌}
use native.Mathlib.Nat.{le_refl, zero-add}
use native.Mathlib.Numerals.{add-one}
use lib.ListN.{length, get_or, set, take, drop}
use lib.Seq.{paste, paste-suc, take-take, take-length, length-take-le}
use borrow.Author.Tests.{le-leb, lt-leb}
use Rattle.octets.specs.Lists.{pasted, onto}

-- a turn of the loop that lays it
pub paste_more : (o : List ℕ) (i : ℕ) (s : List ℕ) (j : ℕ) → i + j < length o → j < length s
    → set (paste o i s j) (i + j) (get_or s j 0) ≡ paste o i s (j + 1)
paste_more o i s j h k = rw (add-one j) (paste-suc o i s j 0 h k)

pub pasted-fits : (o : List ℕ) (i : ℕ) (s : List ℕ) → i + length s ≤ length o → pasted o i s ≡ paste o i s (length s)
pasted-fits o i s h = rw (le-leb (i + length s) (length o) h)

pub pasted-not : (o : List ℕ) (i : ℕ) (s : List ℕ) → length o < i + length s → pasted o i s ≡ o
pasted-not o i s h = rw (lt-leb (i + length s) (length o) h)

-- the first n octets of a list, laid
pub pasted-part : (l o : List ℕ) (i : ℕ) (s : List ℕ) (n : ℕ) → l ≡ pasted o i (take n s) → n ≤ length s → i + n ≤ length o
    → l ≡ paste o i s n
pasted-part l o i s n e h k =
    let c : length (take n s) ≡ n = length-take-le n s h in
    e ∙ pasted-fits o i (take n s) (rw c k) ∙ ap (paste o i (take n s)) c
    ∙ ap (λ (x : List ℕ). take i o ++ x ++ drop (i + n) o) (take-take n n s (le_refl n))

-- a list of n octets, laid whole
pub pasted-whole : (l o : List ℕ) (i : ℕ) (s : List ℕ) (n : ℕ) → l ≡ pasted o i s → length s ≡ n → i + n ≤ length o → l ≡ paste o i s n
pasted-whole l o i s n e c k = e ∙ pasted-fits o i s (rw c k) ∙ ap (paste o i s) c

-- laid at the start
pub pasted-onto : (l o s : List ℕ) → l ≡ pasted o 0 s → length s ≤ length o → l ≡ onto s o
pasted-onto l o s e h =
    let z : 0 + length s ≡ length s = zero-add (length s) in
    e ∙ pasted-fits o 0 s (rw z h)
    ∙ ap₂ (λ (x : List ℕ) (n : ℕ). x ++ drop n o) (take-length s) z
