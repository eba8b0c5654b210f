-- One list behind another at the start of an output.
-- Assumes nothing.
use mathlib.Core.Path.{◌≡◌, sym, ap, ap₂, ◌∙◌}
use mathlib.Core.List.{List, ◌++◌, append_assoc}
use Prim.Native.Nat.{ℕ, ◌+◌, ◌≤◌}
use lib.ListN.{length, take, drop, length-append, take-append-drop}
use lib.Seq.{take_at, drop_at, drop-drop, take-length}
use Rattle.octets.proofs.Pasted.{pasted-fits}
use Rattle.octets.specs.Lists.{onto, pasted}

pub onto-more : (s c o : List ℕ) → s ++ onto c (drop (length s) o) ≡ onto (s ++ c) o
onto-more s c o =
    ap (λ (y : List ℕ). s ++ (c ++ y)) (drop-drop (length c) (length s) o)
    ∙ sym (append_assoc s c (drop (length s + length c) o))
    ∙ ap (λ (n : ℕ). s ++ c ++ drop n o) (sym (length-append s c))

module _ (s o p : List ℕ) (n : ℕ) (e : length s ≡ n) (ep : p ≡ onto s o) where
  pub front : take n p ≡ s
  front = ap (take n) ep ∙ take_at s (drop (length s) o) n e

  rest : drop n p ≡ drop (length s) o
  rest = ap (drop n) ep ∙ drop_at s (drop (length s) o) n e

  -- c was written behind s
  pub written_behind : (c q : List ℕ) → take n q ≡ take n p → drop n q ≡ onto c (drop n p) → q ≡ onto (s ++ c) o
  written_behind c q et ed =
      sym (take-append-drop n q) ∙ ap₂ (λ (u v : List ℕ). u ++ v) (et ∙ front) (ed ∙ ap (onto c) rest) ∙ onto-more s c o

  pub pasted-behind : (c q : List ℕ) → n + length c ≤ length p → q ≡ pasted p n c → q ≡ onto (s ++ c) o
  pasted-behind c q b eq =
      eq ∙ pasted-fits p n c b
      ∙ ap₂ (λ (u v : List ℕ). u ++ v ++ drop (n + length c) p) front (take-length c)
      ∙ ap (λ (y : List ℕ). s ++ c ++ y) (sym (drop-drop (length c) n p) ∙ ap (drop (length c)) rest)
      ∙ append_assoc s c (drop (length c) (drop (length s) o)) ∙ onto-more s c o
