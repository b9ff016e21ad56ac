-- The search between two turns, the arrays being functions: m the marks, p the states on the way, of which there are `depth`, v the values;
-- the states before `root` have been begun. Each turn keeps this. That a way fits its array and a value 16 bits comes from counting: the
-- value of a state that is done is less than the number of such states, and n has these, the states on the way and those not begun.
use mathlib.Core.Path.{◌≡◌, sym, ◌∙◌, ap}
use Prim.Native.Nat.{ℕ, ◌+◌, ◌-◌, ◌<◌, ◌≤◌}
use native.Mathlib.Omega.{arith}
use native.Mathlib.Decide.{ℕ_discrete, dec_lt}
use Rattle.marked_edges.specs.Edges.{edges}
use Rattle.longest_runs.specs.Runs.{Step, Run, OnLoop, LongestIs}
use Rattle.longest_runs.specs.Search.{done, Attained, nothing, by_step, SettledTo, Settled, Seen}
use Rattle.longest_runs.proofs.Counted.{Change, unseen, unseen_most, unseen_kept, unseen_less}
use Rattle.longest_runs.proofs.Runs.{run_then, run_along, longest_of}

-- the mark of a state that is begun and not done
pub record Begun (mark : ℕ) : Type 0 where
  pub some : 0 < mark
  pub not_done : mark < done

pub record OnWay (p : ℕ → ℕ) (depth s : ℕ) : Type 0 where
  pub place : ℕ
  pub within : place < depth
  pub is : p place ≡ s

pub record Underway (next : ℕ → ℕ → ℕ) (n : ℕ) (m p v : ℕ → ℕ) (depth root : ℕ) : Type 0 where
  pub settled : (s : ℕ) → s < n → Settled next n m v s
  pub room : depth + unseen m n ≤ n
  pub spare : (s : ℕ) → s < n → m s ≡ done → v s + 1 + (depth + unseen m n) ≤ n
  pub states : (i : ℕ) → i < depth → p i < n
  pub begun : (i : ℕ) → i < depth → Begun (m (p i))
  pub apart : (i j : ℕ) → i < j → j < depth → p i ≡ p j → ⊥
  pub linked : (i : ℕ) → i + 1 < depth → Step next n (p i) (p (i + 1))
  pub on_way : (s : ℕ) → s < n → Begun (m s) → OnWay p depth s
  pub roots : (s : ℕ) → s < root → 0 < m s

module _ (next : ℕ → ℕ → ℕ) (n : ℕ) where
  -- no state is begun
  pub at_first : (m p v : ℕ → ℕ) → ((s : ℕ) → s < n → m s ≡ 0) → ((s : ℕ) → s < n → v s ≡ 0) → Underway next n m p v 0 0
  at_first m p v no_mark_lem no_length =
      let u = unseen_most m n in
      record {
        settled = λ s h. let e = no_mark_lem s h in
            record {
              most = omega arith;
              finished = λ j l i. absurd (omega arith);
              upper = λ j l i. absurd (omega arith);
              attained = nothing (no_length s h);
            };
        room = omega arith;
        spare = λ s h e. let f = no_mark_lem s h in absurd (omega arith);
        states = λ i h. absurd (omega arith);
        begun = λ i h. absurd (omega arith);
        apart = λ i j l h e. omega arith;
        linked = λ i h. absurd (omega arith);
        on_way = λ s h b. let e = no_mark_lem s h in let q = b.some in absurd (omega arith);
        roots = λ s h. absurd (omega arith);
      }

  -- the root is begun
  pub root_passed : (m p v : ℕ → ℕ) (depth root : ℕ) → 0 < m root → Underway next n m p v depth root → Underway next n m p v depth (root + 1)
  root_passed m p v depth root b g =
      record {
        settled = g.settled;
        room = g.room;
        spare = g.spare;
        states = g.states;
        begun = g.begun;
        apart = g.apart;
        linked = g.linked;
        on_way = g.on_way;
        roots = λ s h. go s h (ℕ_discrete s root);
      }
    where
      go : (s : ℕ) → s < root + 1 → Dec (s ≡ root) → 0 < m s
      go s h (yes e) = rw e b
      go s h (no e) = g.roots s (omega arith)

  -- every state is begun and none is on the way: all are done
  pub at_last : (m p v : ℕ → ℕ) → Underway next n m p v 0 n → (s : ℕ) → s < n → LongestIs next n s (v s)
  at_last m p v g s h = longest_of next n m v all s h (let q = g.spare s h (is_done s h) in omega arith)
    where
      is_done : (t : ℕ) → t < n → m t ≡ done
      is_done t i = go (dec_lt (m t) done)
        where
          go : Dec (m t < done) → m t ≡ done
          go (yes l) = absurd (let o = g.on_way t i (record { some = g.roots t i; not_done = l }) in let q = o.within in omega arith)
          go (no l) = let q = (g.settled t i).most in omega arith

      all : (t : ℕ) → t < n → SettledTo next n m v t edges (v t)
      all t i = let e : m t - 1 ≡ edges = let q = is_done t i in omega arith in rw (← e) (g.settled t i)

  -- ---- a state t that is not begun, at the end of the way
  module _ (m m' p p' v : ℕ → ℕ) (depth root t : ℕ) (inside : t < n) (new : m t ≡ 0) (cm : Change m m' t 1) (cp : Change p p' depth t)
      (link : (i : ℕ) → i + 1 ≡ depth → Step next n (p i) t) (g : Underway next n m p v depth root) where
    enter_settled : (s : ℕ) → s < n → Dec (s ≡ t) → Settled next n m' v s
    enter_settled s h (yes e) =
        let one : m' s ≡ 1 = rw e cm.here in
        let zero : m s ≡ 0 = rw e new in
        let none : m s - 1 ≡ m' s - 1 = omega arith in
        record {
          most = omega arith;
          finished = λ j l i. absurd (omega arith);
          upper = λ j l i. absurd (omega arith);
          attained = rw (← none) (g.settled s h).attained;
        }
    enter_settled s h (no e) =
        let old = g.settled s h in
        rw (cm.else s e)
        (record {
          most = old.most;
          finished = λ j l i. let d = old.finished j l i in cm.else (next s j) (λ q. other j d q) ∙ d;
          upper = old.upper;
          attained = old.attained;
        })
      where
        other : (j : ℕ) → m (next s j) ≡ done → next s j ≡ t → ⊥
        other j d q = let z : m (next s j) ≡ 0 = rw q new in omega arith

    fewer : unseen m' n + 1 ≡ unseen m n
    fewer = unseen_less m m' t 1 cm (omega arith) new n inside

    not_on_way : (i : ℕ) → i < depth → p i ≡ t → ⊥
    not_on_way i h e =
        let b = (g.begun i h).some in
        let z : m (p i) ≡ 0 = rw e new in
        omega arith

    at_place : (i : ℕ) → i < depth → p' i ≡ p i
    at_place i h = cp.else i (λ e. omega arith)

    at_end : (i : ℕ) → i ≡ depth → p' i ≡ t
    at_end i e = rw e cp.here

    kept_mark : (i : ℕ) → i < depth → m' (p' i) ≡ m (p i)
    kept_mark i h = ap m' (at_place i h) ∙ cm.else (p i) (not_on_way i h)

    enter_spare : (s : ℕ) → s < n → m' s ≡ done → Dec (s ≡ t) → v s + 1 + (depth + 1 + unseen m' n) ≤ n
    enter_spare s h f (yes e) = let a : m' s ≡ 1 = rw e cm.here in absurd (omega arith)
    enter_spare s h f (no e) =
        let a : m' s ≡ m s = cm.else s e in
        let b = g.spare s h (omega arith) in
        let u = fewer in
        omega arith

    enter_states : (i : ℕ) → i < depth + 1 → Dec (i ≡ depth) → p' i < n
    enter_states i h (yes e) = rw (at_end i e) inside
    enter_states i h (no e) = let l : i < depth = omega arith in rw (at_place i l) (g.states i l)

    enter_begun : (i : ℕ) → i < depth + 1 → Dec (i ≡ depth) → Begun (m' (p' i))
    enter_begun i h (yes e) = rw (at_end i e, cm.here) (record { some = omega arith; not_done = omega arith })
    enter_begun i h (no e) = let l : i < depth = omega arith in rw (kept_mark i l) (g.begun i l)

    enter_apart : (i j : ℕ) → i < j → j < depth + 1 → Dec (j ≡ depth) → p' i ≡ p' j → ⊥
    enter_apart i j l h (yes e) q = not_on_way i (omega arith) (sym (at_place i (omega arith)) ∙ q ∙ at_end j e)
    enter_apart i j l h (no e) q = g.apart i j l (omega arith) (sym (at_place i (omega arith)) ∙ q ∙ at_place j (omega arith))

    enter_linked : (i : ℕ) → i + 1 < depth + 1 → Dec (i + 1 ≡ depth) → Step next n (p' i) (p' (i + 1))
    enter_linked i h (yes e) = rw (at_place i (omega arith), at_end (i + 1) e) (link i e)
    enter_linked i h (no e) = rw (at_place i (omega arith), at_place (i + 1) (omega arith)) (g.linked i (omega arith))

    enter_on_way : (s : ℕ) → s < n → Begun (m' s) → Dec (s ≡ t) → OnWay p' (depth + 1) s
    enter_on_way s h b (yes e) = record { place = depth; within = omega arith; is = cp.here ∙ sym e }
    enter_on_way s h b (no e) =
        let o = g.on_way s h (rw (← cm.else s e) b) in
        let l = o.within in
        record { place = o.place; within = omega arith; is = at_place o.place l ∙ o.is }

    enter_roots : (s : ℕ) → s < root → Dec (s ≡ t) → 0 < m' s
    enter_roots s h (yes e) = rw (e, cm.here) (omega arith)
    enter_roots s h (no e) = rw (cm.else s e) (g.roots s h)

    pub entered : Underway next n m' p' v (depth + 1) root
    entered =
        record {
          settled = λ s h. enter_settled s h (ℕ_discrete s t);
          room = let u = fewer in let r = g.room in omega arith;
          spare = λ s h f. enter_spare s h f (ℕ_discrete s t);
          states = λ i h. enter_states i h (ℕ_discrete i depth);
          begun = λ i h. enter_begun i h (ℕ_discrete i depth);
          apart = λ i j l h. enter_apart i j l h (ℕ_discrete j depth);
          linked = λ i h. enter_linked i h (ℕ_discrete (i + 1) depth);
          on_way = λ s h b. enter_on_way s h b (ℕ_discrete s t);
          roots = λ s h. enter_roots s h (ℕ_discrete s t);
        }

  -- ---- a look at s, the last state of the way
  module _ (m m' p v v' : ℕ → ℕ) (d root s edge best to : ℕ) (last : s ≡ p d) (seen : Seen next n m v s edge best to)
      (cm : Change m m' s (edge + 1)) (cv : Change v v' s best) (g : Underway next n m p v (d + 1) root) where
    here : s < n
    here = rw last (g.states d (omega arith))

    was : Begun (m s)
    was = rw last (g.begun d (omega arith))

    -- what is done is another state, and stays as it is
    other : (x : ℕ) → m x ≡ done → x ≡ s → ⊥
    other x e q =
        let a : m x ≡ m s = ap m q in
        let u = was.not_done in
        omega arith

    still_done : (x : ℕ) → m x ≡ done → m' x ≡ done
    still_done x e = cm.else x (other x e) ∙ e

    same_value : (x : ℕ) → m x ≡ done → v' x ≡ v x
    same_value x e = cv.else x (other x e)

    still_settled : (x k b : ℕ) → SettledTo next n m v x k b → SettledTo next n m' v' x k b
    still_settled x k b o =
        record {
          most = o.most;
          finished = λ j l i. still_done (next x j) (o.finished j l i);
          upper = λ j l i. rw (same_value (next x j) (o.finished j l i)) (o.upper j l i);
          attained = go o.attained;
        }
      where
        go : Attained next n v x k b → Attained next n v' x k b
        go (nothing z) = nothing z
        go (by_step j l i q) = by_step j l i (rw (same_value (next x j) (o.finished j l i)) q)

    look_settled : (x : ℕ) → x < n → Dec (x ≡ s) → Settled next n m' v' x
    look_settled x h (yes e) =
        let k : m' x - 1 ≡ edge = let a : m' x ≡ edge + 1 = rw e cm.here in omega arith in
        let b : v' x ≡ best = rw e cv.here in
        let o : SettledTo next n m v x edge best = rw e seen.settled in
        rw (k, b) (still_settled x edge best o)
    look_settled x h (no e) = rw (cm.else x e, cv.else x e) (still_settled x (m x - 1) (v x) (g.settled x h))

    as_many : unseen m' n ≡ unseen m n
    as_many = unseen_kept m m' s (edge + 1) cm (omega arith) was.some n

    best_fits : best + (d + 1 + unseen m n) ≤ n
    best_fits = go seen.settled.attained
      where
        go : Attained next n v s edge best → best + (d + 1 + unseen m n) ≤ n
        go (nothing z) = let r = g.room in omega arith
        go (by_step j l i q) = let r = g.spare (next s j) i (seen.settled.finished j l i) in omega arith

    other_spare : (x : ℕ) → x < n → m' x ≡ done → (x ≡ s → ⊥) → v' x + 1 + (d + 1 + unseen m' n) ≤ n
    other_spare x h f e =
        let a : m' x ≡ m x = cm.else x e in
        let b : v' x ≡ v x = cv.else x e in
        let u = as_many in
        let k = g.spare x h (omega arith) in
        omega arith

    not_last : (i : ℕ) → i < d → p i ≡ s → ⊥
    not_last i h e = g.apart i d h (omega arith) (e ∙ last)

    look_roots : (x : ℕ) → x < root → Dec (x ≡ s) → 0 < m' x
    look_roots x h (yes e) = rw (e, cm.here) (omega arith)
    look_roots x h (no e) = rw (cm.else x e) (g.roots x h)

    -- all steps of s are settled
    pub finished : edge ≡ edges → Underway next n m' p v' d root
    finished all =
        record {
          settled = λ x h. look_settled x h (ℕ_discrete x s);
          room = let u = as_many in let r = g.room in omega arith;
          spare = λ x h f. spare x h f (ℕ_discrete x s);
          states = λ i h. g.states i (omega arith);
          begun = λ i h. rw (cm.else (p i) (not_last i h)) (g.begun i (omega arith));
          apart = λ i j l h. g.apart i j l (omega arith);
          linked = λ i h. g.linked i (omega arith);
          on_way = λ x h b. on_way x h b (ℕ_discrete x s);
          roots = λ x h. look_roots x h (ℕ_discrete x s);
        }
      where
        spare : (x : ℕ) → x < n → m' x ≡ done → Dec (x ≡ s) → v' x + 1 + (d + unseen m' n) ≤ n
        spare x h f (yes e) =
            let b : v' x ≡ best = rw e cv.here in
            let u = as_many in
            let k = best_fits in
            omega arith
        spare x h f (no e) = let k = other_spare x h f e in omega arith

        on_way : (x : ℕ) → x < n → Begun (m' x) → Dec (x ≡ s) → OnWay p d x
        on_way x h b (yes e) = let a : m' x ≡ edge + 1 = rw e cm.here in let q = b.not_done in absurd (omega arith)
        on_way x h b (no e) = go (g.on_way x h (rw (← cm.else x e) b))
          where
            go : OnWay p (d + 1) x → OnWay p d x
            go o = by (ℕ_discrete o.place d)
              where
                by : Dec (o.place ≡ d) → OnWay p d x
                by (yes q) = absurd (e (sym o.is ∙ ap p q ∙ sym last))
                by (no q) = record { place = o.place; within = let l = o.within in omega arith; is = o.is }

    -- a step of s is left, and leads to a state that is not done
    module _ (left : edge < edges) where
      now_begun : Begun (edge + 1)
      now_begun = record { some = omega arith; not_done = omega arith }

      pub looked : Underway next n m' p v' (d + 1) root
      looked =
          record {
            settled = λ x h. look_settled x h (ℕ_discrete x s);
            room = let u = as_many in let r = g.room in omega arith;
            spare = λ x h f. spare x h f (ℕ_discrete x s);
            states = g.states;
            begun = λ i h. begun i h (ℕ_discrete (p i) s);
            apart = g.apart;
            linked = g.linked;
            on_way = λ x h b. on_way x h b (ℕ_discrete x s);
            roots = λ x h. look_roots x h (ℕ_discrete x s);
          }
        where
          spare : (x : ℕ) → x < n → m' x ≡ done → Dec (x ≡ s) → v' x + 1 + (d + 1 + unseen m' n) ≤ n
          spare x h f (yes e) = let a : m' x ≡ edge + 1 = rw e cm.here in absurd (omega arith)
          spare x h f (no e) = other_spare x h f e

          begun : (i : ℕ) → i < d + 1 → Dec (p i ≡ s) → Begun (m' (p i))
          begun i h (yes e) = rw (e, cm.here) now_begun
          begun i h (no e) = rw (cm.else (p i) e) (g.begun i h)

          on_way : (x : ℕ) → x < n → Begun (m' x) → Dec (x ≡ s) → OnWay p (d + 1) x
          on_way x h b (yes e) = record { place = d; within = omega arith; is = sym last ∙ sym e }
          on_way x h b (no e) = g.on_way x h (rw (← cm.else x e) b)

      pub step_left : Step next n s to
      step_left = record { edge = edge; one = left; here = here; there = seen.inside; leads = sym (seen.leads left) }

      -- a state that is begun and not done is on the way, so that the step to it closes a loop
      pub closes : 0 < m' to → OnLoop next n to
      closes b = go (looked.on_way to seen.inside (record { some = b; not_done = low (ℕ_discrete to s) }))
        where
          low : Dec (to ≡ s) → m' to < done
          low (yes e) = rw (e, cm.here) now_begun.not_done
          low (no e) =
              let a : m' to ≡ m to = cm.else to e in
              let k = (g.settled to seen.inside).most in
              let f = seen.not_done left in
              omega arith

          go : OnWay p (d + 1) to → OnLoop next n to
          go o =
              let l = o.within in
              let k = d - o.place in
              let r : Run next n (p o.place) (p d) k = run_along next n p d g.linked k o.place (omega arith) in
              let r' : Run next n to s k = rw (← o.is, last) r in
              record { less = k; back = run_then next n r' step_left }
