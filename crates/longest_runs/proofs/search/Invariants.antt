-- Each turn of the loop by its law of proofs/Turns, which keeps what holds and leaves less to do.
use Rattle.marked_edges.specs.Edges.{next_in}
use Rattle.longest_runs.proofs.Turns as laws
use Rattle.longest_runs.proofs.search.Given as goal

abbrev pub invariant-loop-depth : goal.invariant-loop-depth
invariant-loop-depth l =
    laws.Searching (next_in l.lines.fields.now l.lines.starts.now l.shape) l.n l.initial.out l.out l.mark l.path l.depth l.root

abbrev pub decreases-loop-depth : goal.decreases-loop-depth
decreases-loop-depth l = laws.work l.n l.mark l.depth l.root
