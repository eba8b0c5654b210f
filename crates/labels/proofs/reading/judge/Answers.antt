-- Each test of the code is one of the definition's; the code and the key of a good label are what it says.
use mathlib.Core.Path.{◌≡◌, sym, ap, ◌∙◌}
use mathlib.Core.Bool.{Bool, true}
use mathlib.Core.List.{List, ◌++◌}
use Prim.Native.Nat.{ℕ, ◌-◌, ◌≤◌}
use native.Mathlib.Omega.{arith}
use lib.ListN.{length, take, drop, replicate}
use lib.Seq.{length-take-le}
use Rattle.std.proofs.Common.{Ok}
use Rattle.octets.specs.Least.{spelled}
use Rattle.octets.specs.Lists.{eq_list}
use Rattle.cipher.specs.Hash.{hash_of}
use Rattle.cipher.proofs.Lengths.{hashing-made}
use Rattle.labels.specs.Crc.{crc}
use Rattle.labels.specs.Codes.{code_length}
use Rattle.labels.proofs.Lengths.{code-most}
use Rattle.labels.proofs.Judging.{crc-told, hash-made, judged-few, judged-length, judged-crc, judged-good}
use Rattle.labels.proofs.reading.judge.Goals as goal
use Rattle.labels.proofs.reading.judge.Goals.{Else-not-code_length, After-same, After-hash}

allowed : (c : Else-not-code_length) → code_length (length c.args.o.now - 2) ≡ true
allowed c = sym c.code_length.ensures ∙ c.if-not-code_length.false

most : (c : Else-not-code_length) → length c.args.o.now - 2 ≤ 16
most c = code-most _ (allowed c)

compared : (c : After-same) → let o = c.args.o.now in (t : Bool) → c.same.result ≡ t
    → eq_list (drop (length o - 2) o) (spelled 2 (crc (take (length o - 2) o))) ≡ t
compared c t e = crc-told c.args.o.now _ _ _ t c.same.ensures c.crc_octets.ensures e

pub returns-then-o-lt2 : goal.returns-then-o-lt2
returns-then-o-lt2 c = sym (judged-few c.args.o.now c.if-o-lt2.true)

pub returns-then-not-code_length : goal.returns-then-not-code_length
returns-then-not-code_length c = sym (judged-length c.args.o.now (sym c.code_length.ensures ∙ c.if-not-code_length.true))

pub returns-then-not-same : goal.returns-then-not-same
returns-then-not-same c =
    let at = goal.at.returns-then-not-same c in
    sym (judged-crc c.args.o.now (allowed at.Else-not-code_length) (compared at.After-same _ c.if-not-same.true))

pub slice_bounds-code-end : goal.slice_bounds-code-end
slice_bounds-code-end c = most (goal.at.slice_bounds-code-end c).Else-not-code_length

pub slice_bounds-copy_from_slice-end : goal.slice_bounds-copy_from_slice-end
slice_bounds-copy_from_slice-end c =
    sym (length-take-le _ (replicate 16 0) (most (goal.at.slice_bounds-copy_from_slice-end c).Else-not-code_length))

pub copy_from_slice-requires : goal.copy_from_slice-requires
copy_from_slice-requires c =
    let n = length c.args.o.now - 2 in
    length-take-le n (replicate 16 0) (most (goal.at.copy_from_slice-requires c).Else-not-code_length)
    ∙ sym (length-take-le n c.args.o.now (omega arith))

hash : (c : After-hash) → c.hash.result ≡ Ok (hash_of c.args.o.now)
hash c =
    let m = most (goal.at.After-hash c).Else-not-code_length in
    hash-made c.hash.result _ (c.hash.ensures ∙ hashing-made c.args.o.now (omega arith))

pub unwrap-key-requires : goal.unwrap-key-requires
unwrap-key-requires c = rw (hash c)

pub returns : goal.returns
returns c =
    let at = goal.at.returns c in
    let o = c.args.o.now in
    let m = most at.Else-not-code_length in
    judged-good o (allowed at.Else-not-code_length) _ _ (compared at.After-same _ c.if-not-same.false)
    (ap (λ (x : List ℕ). x ++ drop (length o - 2) (replicate 16 0)) c.copy_from_slice.ensures.after)
    (cc (hash at.After-hash, c.unwrap-key.ensures))
