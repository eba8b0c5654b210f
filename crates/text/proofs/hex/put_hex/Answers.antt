use Rattle.std.proofs.Common.{◌≡◌, ℕ, ◌+◌, ◌*◌, ◌≤◌, List, length, get_or, set, sym, ◌∙◌, ap, arith}
use Rattle.std.proofs.Math.Seq.{paste}
use mathlib.Core.Path.{ap₂}
use Rattle.octets.proofs.Pasted.{paste_more, pasted-fits}
use Rattle.text.specs.Hex.{hex_of}
use Rattle.text.proofs.Hexed.{length-hex, hex-high, hex-low}
use Rattle.text.proofs.Placed.{no_room, ahead-fits}
use Rattle.text.proofs.hex.put_hex.Goals as goal
use Rattle.text.proofs.hex.put_hex.Goals.{then-out-src-via-then-out-src, then-out-src-via-else-out-src+then-out-src-2}

pub returns-then-out-src : goal.returns-then-out-src
returns-then-out-src c =
    let x = c.args in
    no_room x.out.now x.at (hex_of x.src.now)
    (elim c.then-out-src.branch [
      | then-out-src-via-then-out-src w ↦ omega (arith, length-hex x.src.now)
      | then-out-src-via-else-out-src+then-out-src-2 w ↦ omega (arith, length-hex x.src.now)
    ])

-- a turn lays both digits of an octet, the upper one first
pub loop-j-preserved : goal.loop-j-preserved
loop-j-preserved c =
    let o = c.args.out.now in
    let at = c.args.at in
    let src = c.args.src.now in
    let j = c.loop-j.j in
    let h = hex_of src in
    let long = length-hex src in
    let next : at + j * 2 + 1 ≡ at + (j * 2 + 1) = omega arith in
    let two : j * 2 + 1 + 1 ≡ (j + 1) * 2 = omega arith in
    let upper : set c.loop-j.out (at + j * 2) c.glyph.result ≡ paste o at h (j * 2 + 1) =
    ap₂ (λ (l : List ℕ) (b : ℕ). set l (at + j * 2) b) c.loop-j.invariant
    (c.glyph.ensures ∙ sym (hex-high src j c.loop-j-test.true))
    ∙ paste_more o at h (j * 2) (omega arith) (omega (arith, long)) in
    ap₂ (λ (l : List ℕ) (b : ℕ). set l (at + j * 2 + 1) b) upper
    (c.glyph-in-loop-j.ensures ∙ sym (hex-low src j c.loop-j-test.true))
    ∙ ap (λ (n : ℕ). set (paste o at h (j * 2 + 1)) n (get_or h (j * 2 + 1) 0)) next
    ∙ paste_more o at h (j * 2 + 1) (omega arith) (omega (arith, long))
    ∙ ap (paste o at h) two

pub returns : goal.returns
returns c =
    let o = c.args.out.now in
    let at = c.args.at in
    let h = hex_of c.args.src.now in
    let long = length-hex c.args.src.now in
    let e : c.loop-j.j * 2 ≡ length h = omega (arith, long) in
    let fits : at + length h ≤ length o = omega (arith, long) in (
      c.loop-j.invariant ∙ ap (paste o at h) e ∙ sym (pasted-fits o at h fits),
      omega (arith, long, ahead-fits o at h fits),
    )
