-- The loop keeps: the digits of the first j octets are laid from `at` on.
use Rattle.std.proofs.Common.{◌≡◌, ◌*◌}
use Rattle.std.proofs.Math.Seq.{paste}
use Rattle.text.specs.Hex.{hex_of}
use Rattle.text.proofs.hex.put_hex.Given as goal

abbrev pub invariant-loop-j : goal.invariant-loop-j
invariant-loop-j l = l.out ≡ paste l.initial.out l.at (hex_of l.src) (l.j * 2)
