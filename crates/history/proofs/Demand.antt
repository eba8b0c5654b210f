-- Demand 3.
-- Assumes nothing.
use Rattle.settings.specs.Settings.{ours}
use Rattle.history.specs.Running.{Demand3, OurDemand3}
use Rattle.history.proofs.First.{first}
use Rattle.history.proofs.Second.{second}

pub demand-3 : Demand3
demand-3 z n own found fit wide low made = (first z n own found wide low made, second z n own found fit)

pub our-demand-3 : OurDemand3
our-demand-3 = demand-3 ours
