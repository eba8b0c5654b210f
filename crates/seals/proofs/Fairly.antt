-- Our settings are fair: 5 is below 8, and CCM* allows a tag of 4 octets.
-- Assumes nothing.
use native.Mathlib.Omega.{arith}
use Rattle.settings.specs.Settings.{ours}
use Rattle.cipher.proofs.Lengths.{tag-four}
use Rattle.seals.specs.Sealing.{Fair}

pub ours-fair : Fair ours
ours-fair = record { level = omega arith; tag = tag-four }
