-- The loop keeps: what is behind k tabs is behind the tabs that are left from `at` on.
use Rattle.std.proofs.Common.{◌≡◌, ◌≤◌, ◌-◌, length, drop}
use Rattle.text.specs.Fields.{behind}
use Rattle.text.proofs.fields.behind.Given as goal

abbrev pub invariant-loop : goal.invariant-loop
invariant-loop l = (l.at ≤ length l.line) × (behind l.k l.line ≡ behind (l.k - l.counter) (drop l.at l.line))
