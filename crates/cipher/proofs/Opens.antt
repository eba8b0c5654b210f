-- What the calls of `open_with` answered tells whether the tag fits, and what is then left; and an allowed tag has at most 16 octets.
-- Assumes nothing.
use mathlib.Core.Path.{◌≡◌, refl, sym, ap, ap₂, ◌∙◌}
use mathlib.Core.Bool.{Bool, true, false}
use mathlib.Core.List.{List}
use Prim.Native.Nat.{ℕ, ◌-◌, ◌%◌, ◌≤◌, ◌<◌}
use native.Mathlib.Nat.{zero-add, le_refl}
use native.Mathlib.Omega.{arith}
use lib.Dec.{eqb, leb}
use lib.ListN.{length, take, drop, length-drop}
use lib.Seq.{take_at, take_all, length-take-le}
use borrow.Author.Tests.{eqb-true, leb-true, le-ltb}
use Rattle.octets.proofs.Pasted.{pasted-onto}
use Rattle.std.specs.Prelude.{if◌then◌else◌}
use Rattle.octets.specs.Choice.{both}
use Rattle.octets.specs.Lists.{at, eq_list, onto, pasted}
use Rattle.cipher.specs.Aes.{add_blocks}
use Rattle.cipher.specs.Blocks.{block_from}
use Rattle.cipher.specs.Ccm.{key_stream, streamed, masked, mac_of, tag_of, body_of, seal_of, fits, ccm_open}
use Rattle.cipher.specs.Answers.{product, made, refused, tag_length, opened_onto}
use Rattle.cipher.proofs.Parsed.{block_at}
use Rattle.cipher.proofs.Streams.{streamed-length, masked-block}

pub tag-most : (M : ℕ) → tag_length M ≡ true → M ≤ 16
unfolding tag_length
tag-most M e = go (eqb M 0) refl e
  where
    inner : (s t : Bool) → leb M 16 ≡ t → both s (both t (eqb (M % 2) 0)) ≡ true → M ≤ 16
    inner true true q r = leb-true M 16 q
    inner true false q r = let never : ◌≡◌ {A = ℕ} 0 1 = cc in absurd (omega arith)
    inner false t q r = let never : ◌≡◌ {A = ℕ} 0 1 = cc in absurd (omega arith)

    go : (t : Bool) → eqb M 0 ≡ t → (if t then true else both (leb 4 M) (both (leb M 16) (eqb (M % 2) 0))) ≡ true → M ≤ 16
    go true q r = let e = eqb-true M 0 q in omega arith
    go false q r = inner (leb 4 M) (leb M 16) refl r

module _ (E : List ℕ → List ℕ) (M : ℕ) (n a c o : List ℕ) (m≤ : M ≤ 16) (m≤c : M ≤ length c) where
  abbrev plain_of : List ℕ
  plain_of = streamed E n (body_of M c)

  body-length : length (body_of M c) ≡ length c - M
  body-length = length-take-le (length c - M) c (omega arith)

  pub plain-length : length plain_of ≡ length c - M
  plain-length = streamed-length E n (body_of M c) ∙ body-length

  pub plain-front : (z p : List ℕ) → p ≡ onto plain_of z → take (length c - M) p ≡ plain_of
  plain-front z p e = ap (take (length c - M)) e ∙ take_at plain_of (drop (length plain_of) z) (length c - M) plain-length

  -- whether the tags that were compared are equal is whether the tag fits
  pub fits_by : (z p x u v t : List ℕ) (r : Bool) → p ≡ onto plain_of z → x ≡ mac_of E M n a (take (length c - M) p)
      → v ≡ take (length c - (length c - M)) (drop (length c - M) c) → u ≡ block_from v 0 → t ≡ add_blocks u (key_stream E n 0)
      → r ≡ eq_list (take M t) (take M x) → fits E M n a c ≡ r
  unfolding fits tag_of
  fits_by z p x u v t r ep ex ev eu et er = sym (er ∙ ap₂ eq_list tag mac)
    where
      mac : take M x ≡ take M (mac_of E M n a plain_of)
      mac = ap (take M) (ex ∙ ap (mac_of E M n a) (plain-front z p ep))

      whole : v ≡ seal_of M c
      whole =
          ev ∙ take_all (length c - (length c - M)) (seal_of M c)
          (rw (length-drop (length c - M) c) (le_refl (length c - (length c - M))))

      same : (i : ℕ) → i < M → at u i ≡ at (seal_of M c) i
      same i h = ap (λ (l : List ℕ). at l i) eu ∙ block_at v 0 i (omega arith) ∙ ap₂ at whole (zero-add i)

      tag : take M t ≡ masked E M n (seal_of M c)
      tag = ap (take M) et ∙ masked-block E M n (seal_of M c) u m≤ same

  pub opened-false : fits E M n a c ≡ false → product (refused 9) o ≡ opened_onto (ccm_open E M n a c) o
  unfolding ccm_open
  opened-false e = rw (le-ltb _ _ m≤c, e) refl

  pub opened-true : (z p q : List ℕ) → length c - M ≤ length o → fits E M n a c ≡ true → p ≡ onto plain_of z
      → q ≡ pasted o 0 (take (length c - M) p) → product (made (length c - M)) q ≡ opened_onto (ccm_open E M n a c) o
  unfolding ccm_open
  opened-true z p q h e ep eq =
      let f = plain-front z p ep in
      let l : length plain_of ≤ length o = rw plain-length h in
      let front : q ≡ onto plain_of o = pasted-onto q o plain_of (eq ∙ ap (pasted o 0) f) l in
      rw (le-ltb _ _ m≤c, e) (ap₂ (λ (k : ℕ) (x : List ℕ). product (made k) x) (sym plain-length) front)
