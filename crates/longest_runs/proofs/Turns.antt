-- The turns of the search's loop over the arrays: what holds between two turns, what each leaves, and that less is left to do.
use mathlib.Core.Path.{◌≡◌, refl, ◌∙◌}
use mathlib.Core.List.{List}
use Prim.Native.Nat.{ℕ, ◌+◌, ◌-◌, ◌*◌, ◌<◌, ◌≤◌}
use native.Mathlib.Omega.{arith}
use lib.ListN.{get_or, length, length-set, set, replicate, length-replicate, get_or-replicate}
use mir.Syntax.{w64}
use mir.Val.{Fits}
use Rattle.marked_edges.specs.Edges.{edges}
use Rattle.longest_runs.specs.Runs.{Step, KeptPast, Written, longest, loop}
use Rattle.longest_runs.specs.Search.{view, done, Cleared, Ready, Seen, Fresh}
use Rattle.std.specs.Prelude.{Result, Ok, Err}
use Rattle.longest_runs.proofs.Counted.{Change, put, unseen, unseen_kept, unseen_less}
use Rattle.longest_runs.proofs.Kept.{kept_none, kept_then, kept_set}
use Rattle.longest_runs.proofs.Underway.{Underway, at_first, root_passed, at_last, entered, finished, looked, step_left, closes}

pub record Searching (next : ℕ → ℕ → ℕ) (n : ℕ) (before out mark path : List ℕ) (depth root : ℕ) : Type 0 where
  pub states : n ≤ 65536
  pub fits : n ≤ length out
  pub kept : KeptPast n before out
  pub to_do : root ≤ n
  pub marks : length mark ≡ 65536
  pub places : length path ≡ 65536
  pub underway : Underway next n (view mark) (view path) (view out) depth root

-- a state that is not begun is still to be entered and to be left
abbrev pub work : ℕ → List ℕ → ℕ → ℕ → ℕ
work n mark depth root = 2 * unseen (view mark) n + depth + (n - root)

pub set_fits : (n : ℕ) (l : List ℕ) (i a : ℕ) → n ≤ length l → n ≤ length (set l i a)
set_fits n l i a h = rw (length-set l i a) h

-- ---- before the loop

pub fresh : (n : ℕ) (before out : List ℕ) → n ≤ 65536 → n ≤ length before → Cleared n before out
    → Fresh n (replicate 65536 0) (replicate 65536 0) out
fresh n before out l fits c =
    record {
      states = l;
      fits = let e = c.kept.same_length in omega arith;
      marks = length-replicate {A = ℕ} 65536 0;
      places = length-replicate {A = ℕ} 65536 0;
      no_mark_lem = λ s h. get_or-replicate {A = ℕ} 65536 s 0 0 (omega arith);
      no_length = c.zeros;
    }

pub search_begins : (next : ℕ → ℕ → ℕ) (n : ℕ) (out mark path : List ℕ) → Fresh n mark path out → Searching next n out out mark path 0 0
search_begins next n out mark path b =
    record {
      states = b.states;
      fits = b.fits;
      kept = kept_none n out;
      to_do = omega arith;
      marks = b.marks;
      places = b.places;
      underway = at_first next n (view mark) (view path) (view out) b.no_mark_lem b.no_length;
    }

-- what the search writes on a slice that was cleared is written on the slice before
pub filled_from : (next : ℕ → ℕ → ℕ) (n : ℕ) (before out after : List ℕ) (r : Result (Unit {0}) ℕ) → Cleared n before out → Written next n out after r
    → Written next n before after r
filled_from next n before out after r c (longest k f) = longest (kept_then n before out after c.kept k) f
filled_from next n before out after r c (loop s k z i o) = loop s (kept_then n before out after c.kept k) z i o

module _ (next : ℕ → ℕ → ℕ) (n : ℕ) (before out mark path : List ℕ) (depth root : ℕ)
    (g : Searching next n before out mark path depth root) where
  pub search_ends : depth ≡ 0 → root ≡ n → Written next n before out (Ok tt)
  search_ends e f =
      let u : Underway next n (view mark) (view path) (view out) 0 n = rw (e, f) at g.underway in
      longest g.kept (at_last next n (view mark) (view path) (view out) u)

  -- ---- a root

  module _ (some : root ≡ n → ⊥) where
    root_in : root < n
    root_in = let k = g.to_do in omega arith

    pub root_passes : (get_or mark root 0 ≡ 0 → ⊥) → Searching next n before out mark path depth (root + 1)
    root_passes b =
        record {
          states = g.states;
          fits = g.fits;
          kept = g.kept;
          to_do = let k = root_in in omega arith;
          marks = g.marks;
          places = g.places;
          underway = root_passed next n (view mark) (view path) (view out) depth root (omega arith) g.underway;
        }

    pub pass_less : work n mark depth (root + 1) < work n mark depth root
    pass_less = let k = root_in in omega arith

    module _ (first : depth ≡ 0) (new : get_or mark root 0 ≡ 0) where
      root_marked : Change (view mark) (view (set mark root 1)) root 1
      root_marked = put mark root 1 (let k = root_in in let q = g.marks in let q' = g.states in omega arith)

      pub root_enters : Searching next n before out (set mark root 1) (set path 0 root) 1 root
      root_enters =
          let u : Underway next n (view mark) (view path) (view out) 0 root = rw first at g.underway in
          let cp = put path 0 root (let q = g.places in omega arith) in
          record {
            states = g.states;
            fits = g.fits;
            kept = g.kept;
            to_do = g.to_do;
            marks = length-set mark root 1 ∙ g.marks;
            places = length-set path 0 root ∙ g.places;
            underway = entered next n (view mark) (view (set mark root 1)) (view path) (view (set path 0 root)) (view out) 0 root root root_in
                new root_marked cp (λ i e. absurd (omega arith)) u;
          }

      pub root_less : work n (set mark root 1) 1 root < work n mark depth root
      root_less =
          let u = unseen_less (view mark) (view (set mark root 1)) root 1 root_marked (omega arith) new n root_in in
          omega arith

  -- ---- the last state of the way

  module _ (s : ℕ) (deep : depth ≡ 0 → ⊥) (last : s ≡ get_or path (depth - 1) 0) where
    one_more : depth - 1 + 1 ≡ depth
    one_more = omega arith

    with_last : Underway next n (view mark) (view path) (view out) (depth - 1 + 1) root
    with_last = rw one_more g.underway

    last_in_lem : s < n
    last_in_lem = rw last (g.underway.states (depth - 1) (omega arith))

    pub last_small : s < 65536
    last_small = let k = last_in_lem in let q = g.states in omega arith

    pub last_scaled : Fits w64 (s * 2)
    last_scaled = omega (arith, last_small)

    pub last_in_out : s < length out
    last_in_out = let k = last_in_lem in let q = g.fits in omega arith

    last_begun : 0 < get_or mark s 0
    last_begun = rw last (g.underway.begun (depth - 1) (omega arith)).some

    pub search_looks : Ready next n (view mark) (view out) s (length out)
    search_looks =
        record {
          states = g.states;
          fits = g.fits;
          here = last_in_lem;
          begun = last_begun;
          spare = λ t h e. let q = g.underway.spare t h e in let q' = g.states in omega arith;
          settled = g.underway.settled s last_in_lem;
        }

    module _ (edge best to : ℕ) (seen : Seen next n (view mark) (view out) s edge best to) where
      abbrev mark' : List ℕ
      mark' = set mark s (edge + 1)

      abbrev out' : List ℕ
      out' = set out s best

      marked : Change (view mark) (view mark') s (edge + 1)
      marked = put mark s (edge + 1) (let k = last_small in let q = g.marks in omega arith)

      raised : Change (view out) (view out') s best
      raised = put out s best last_in_out

      out_kept : KeptPast n before out'
      out_kept = kept_then n before out out' g.kept (kept_set n out s best last_in_lem)

      pub look_same : unseen (view mark') n ≡ unseen (view mark) n
      look_same = unseen_kept (view mark) (view mark') s (edge + 1) marked (omega arith) last_begun n

      pub search_finishes : edge ≡ edges → Searching next n before out' mark' path (depth - 1) root
      search_finishes e =
          record {
            states = g.states;
            fits = set_fits n out s best g.fits;
            kept = out_kept;
            to_do = g.to_do;
            marks = length-set mark s (edge + 1) ∙ g.marks;
            places = g.places;
            underway = finished next n (view mark) (view mark') (view path) (view out) (view out') (depth - 1) root s edge best to last seen
                marked raised with_last e;
          }

      pub finish_less : work n mark' (depth - 1) root < work n mark depth root
      finish_less = let u = look_same in omega arith

      -- ---- the state that its next step leads to

      module _ (left : edge < edges) where
        pub cleared_long : (after : List ℕ) → Cleared n out' after → length after ≡ length before
        cleared_long after c = c.kept.same_length ∙ out_kept.same_length

        pub search_loops : (after : List ℕ) → (get_or mark' to 0 ≡ 0 → ⊥) → Cleared n out' after → Written next n before after (Err to)
        search_loops after b c =
            loop to (kept_then n before out' after out_kept c.kept) c.zeros seen.inside
            (closes next n (view mark) (view mark') (view path) (view out) (view out') (depth - 1) root s edge best to last seen marked raised
            with_last left (omega arith))

        module _ (new : get_or mark' to 0 ≡ 0) where
          to_marked : Change (view mark') (view (set mark' to 1)) to 1
          to_marked =
              let k = seen.inside in
              let q = g.states in
              let e : length mark' ≡ 65536 = length-set mark s (edge + 1) ∙ g.marks in
              put mark' to 1 (omega arith)

          fewer : unseen (view (set mark' to 1)) n + 1 ≡ unseen (view mark) n
          fewer = unseen_less (view mark') (view (set mark' to 1)) to 1 to_marked (omega arith) new n seen.inside ∙ look_same

          pub way_room : depth < 65536
          way_room = let u = fewer in let r = g.underway.room in let q = g.states in omega arith

          pub search_enters : Searching next n before out' (set mark' to 1) (set path depth to) (depth + 1) root
          search_enters =
              record {
                states = g.states;
                fits = set_fits n out s best g.fits;
                kept = out_kept;
                to_do = g.to_do;
                marks = length-set mark' to 1 ∙ length-set mark s (edge + 1) ∙ g.marks;
                places = length-set path depth to ∙ g.places;
                underway = entered next n (view mark') (view (set mark' to 1)) (view path) (view (set path depth to)) (view out') depth root
                    to seen.inside new to_marked cp link u;
              }
            where
              cp : Change (view path) (view (set path depth to)) depth to
              cp = put path depth to (let k = way_room in let q = g.places in omega arith)

              u : Underway next n (view mark') (view path) (view out') depth root
              u = rw (← one_more)
                  (looked next n (view mark) (view mark') (view path) (view out) (view out') (depth - 1) root s edge best to last seen marked
                  raised with_last left)

              link : (i : ℕ) → i + 1 ≡ depth → Step next n (get_or path i 0) to
              link i e =
                  let f : i ≡ depth - 1 = omega arith in
                  rw (f, ← last)
                  (step_left next n (view mark) (view mark') (view path) (view out) (view out') (depth - 1) root s edge best to last seen
                  marked raised with_last left)

          pub push_less : work n (set mark' to 1) (depth + 1) root < work n mark depth root
          push_less = let u = fewer in omega arith

    -- no step is left
    module _ (best : ℕ) (seen : Seen next n (view mark) (view out) s edges best 0) where
      pub all_finished : Searching next n before (set out s best) (set mark s done) path (depth - 1) root
      all_finished = search_finishes edges best 0 seen refl

      pub all_less : work n (set mark s done) (depth - 1) root < work n mark depth root
      all_less = finish_less edges best 0 seen
