-- Lists that fit (RULES 2.3): they have the rows of two slots, and the rows of a slot are rows of theirs.
-- Assumes nothing.
use mathlib.Core.Path.{◌≡◌, ◌∙◌}
use mathlib.Core.Bool.{true}
use Prim.Native.Nat.{ℕ, zero, suc, ◌+◌, ◌*◌, ◌/◌, ◌%◌, ◌<◌, ◌≤◌}
use native.Mathlib.Omega.{arith}
use lib.Dec.{leb}
use lib.ListN.{length}
use borrow.Author.Tests.{eqb-true}
use Rattle.settings.specs.Settings.{shortest_list, longest_list}
use Rattle.octets.proofs.Choices.{both-parts}
use Rattle.board.specs.Rows.{Lists, legal, lists_fit, half}

-- a legal length is twice its half
pub legal-twice : (n : ℕ) → legal n ≡ true → n ≡ 2 * (n / 2)
unfolding legal
legal-twice n e =
    let p = both-parts (leb shortest_list n) _ e in
    let q = both-parts (leb n longest_list) _ p.1 in
    let r : n % 2 ≡ 0 = eqb-true _ _ q.1 in
    omega arith

-- lists that fit have the rows of two slots
pub lists-long : (w : Lists) → lists_fit w ≡ true → (length w.addrs ≡ 2 * half w) × (length w.floors ≡ 2 * half w)
unfolding lists_fit
lists-long w e =
    let p = both-parts (legal (length w.addrs)) _ e in
    let a = legal-twice (length w.addrs) p.0 in
    (a, eqb-true _ _ p.1 ∙ a)

-- where the rows of a slot start, and that they are rows of the list
pub slot-start : (m i : ℕ) → i < 2 → i * m ≤ m
slot-start m zero a = omega arith
slot-start m (suc zero) a = omega arith
slot-start m (suc (suc i)) a = absurd (omega arith)

pub slot-within : (m i : ℕ) → i < 2 → i * m + m ≤ 2 * m
slot-within m i a = let low = slot-start m i a in omega arith
