-- `bench_advances` makes as many advances as it takes.
use Rattle.std.proofs.Common.{◌≡◌, ◌-◌, ◌≤◌}
use Rattle.desk_c.proofs.Advances.{with_left, taken}
use Rattle.desk_c.proofs.bench_advances.Given as goal

abbrev pub invariant-loop-made : goal.invariant-loop-made
invariant-loop-made l = (1 ≤ l.made) × (l.made ≤ 65537) × (with_left l.desk l.n (l.made - 1) ≡ taken l.text l.n)
