-- Star-swap's lists in the stack machine of replay.
use Rattle.std.specs.Prelude.{ℕ, suc, ◌+◌, ◌<◌, ◌≤◌, Bool, true, false, ◌&&◌, List, [], ◌∷◌, ◌≡◌, length, ltb}
use Rattle.std.proofs.Math.Path.{refl}
use Rattle.std.proofs.Common.{ap, ◌∙◌, arith, lt-ltb, ltb-true}
use Rattle.std.specs.Prelude.{None, Some}
use Rattle.std.proofs.Math.Decide.{ℕ_discrete}
use Rattle.costs.specs.Choice.{◌if◌otherwise◌}
use Rattle.costs.specs.Laws.{decoded_code}
use Rattle.costs.specs.Step.{decoded}
use Rattle.costs.specs.declared.Step.TheVariants.{Swap}
use Rattle.replay.specs.Machine.{Rules, allows, after, onward, ran_on, ends}
use Rattle.replay.specs.Laws.{and_left, and_right}
use Rattle.star_swap.specs.Count.{cnt, cnt_by, δ_refl, δ_neg}
use Rattle.star_swap.specs.Star.{at, run, swap_at, star_swaps, codes}
use Rattle.star_swap.specs.Exec.{swap_length}
use Rattle.star_swap.specs.Routes.{Routes, Routed, routed_routes}

pub swap_allowed : (q : Rules) (d n : ℕ) → 0 < d → d < q.swap_max → d < n → allows q (Swap d) n ≡ true
unfolding allows
swap_allowed q d n a b c = rw (lt-ltb _ _ a, lt-ltb _ _ b, lt-ltb _ _ c)

-- swaps that are all allowed
pub ran_swaps : (q : Rules) (i : ℕ) (S w : List ℕ) → length w ≤ 256 → ((d : ℕ) → 0 < cnt d S → (0 < d) × (d < q.swap_max) × (d < length w)) → ran_on q i (codes S) w ≡ ends (run w S)
unfolding ran_on run cnt_by
ran_swaps q i [] w m h = refl
ran_swaps q i (d ∷ S) w m h =
    let here = h d (omega (arith, δ_refl d)) in
    let l : length (swap_at w d) ≡ length w = swap_length w d here.0 here.2 in
    let e : decoded (512 + d) ≡ Some (Swap d) = decoded_code (Swap d) (omega arith) in
    let a : allows q (Swap d) (length w) ≡ true = swap_allowed q d (length w) here.0 here.1 here.2 in
    let s : after (Swap d) w ≡ swap_at w d = unfold after in refl in
    rw (e, a, s)
    (ran_swaps q (suc i) S (swap_at w d) (omega arith) (λ x g. let t = h x (omega arith) in (t.0, t.1, omega arith)))

-- star-swap's own list, where it does not refuse
pub ran_star : (q : Rules) (i : ℕ) (cur goal : List ℕ) → length goal ≤ 256 → ((j : ℕ) → j < length goal → at goal j < 64) → Routed q.swap_max cur goal → ran_on q i (codes (star_swaps cur goal)) cur ≡ ends goal
ran_star q i cur goal m keys h =
    let t : Routes q.swap_max cur goal (star_swaps cur goal) = routed_routes q.swap_max cur goal keys h in
    ran_swaps q i (star_swaps cur goal) cur (omega (arith, h.same_length)) (λ d g. ((t.reaches.depths d g).0, t.below d g, (t.reaches.depths d g).1)) ∙ ap ends t.reaches.ends

-- a swap that the machine allows
pub record Allowed (q : Rules) (d n : ℕ) : Type 0 where
  pub low : 0 < d
  pub reach : d < q.swap_max
  pub inside : d < n

allowed_swap : (q : Rules) (d n : ℕ) → allows q (Swap d) n ≡ true → Allowed q d n
unfolding allows
allowed_swap q d n h =
    let g = and_right (ltb 0 d) (ltb d q.swap_max && ltb d n) h in
    record {
      low = ltb-true _ _ (and_left (ltb 0 d) (ltb d q.swap_max && ltb d n) h);
      reach = ltb-true _ _ (and_left (ltb d q.swap_max) (ltb d n) g);
      inside = ltb-true _ _ (and_right (ltb d q.swap_max) (ltb d n) g);
    }

-- swaps that the machine carries out from a window to the goal are a sequence of swaps below its reach
pub ran_routes : (q : Rules) (i : ℕ) (S w goal : List ℕ) → ((d : ℕ) → 0 < cnt d S → d < 256) → ran_on q i (codes S) w ≡ ends goal → Routes q.swap_max w goal S
unfolding ran_on run cnt_by
ran_routes q i [] w goal m e =
    record { reaches = record { depths = λ d p. absurd (omega arith); ends = cc }; below = λ d p. absurd (omega arith) }
ran_routes q i (d ∷ S) w goal m e =
    let k : decoded (512 + d) ≡ Some (Swap d) = decoded_code (Swap d) (m d (omega (arith, δ_refl d))) in
    go (λ f. ran_routes q (suc i) S (swap_at w d) goal (λ j p. m j (omega arith)) f) (allows q (Swap d) (length w)) refl (rw k at e)
  where
    next : Routes q.swap_max (swap_at w d) goal S → Allowed q d (length w) → Routes q.swap_max w goal (d ∷ S)
    next r a =
        let l : length (swap_at w d) ≡ length w = swap_length w d a.low a.inside in
        record {
          reaches =
              record {
                depths = λ j p.
                    elim (ℕ_discrete j d) [
                      | yes z ↦ (omega (arith, a.low), omega (arith, a.inside))
                      | no z ↦
                          let t = r.reaches.depths j (unfold cnt_by in (omega (arith, p, δ_neg j d z))) in
                          (t.0, omega (arith, t.1))
                    ];
                ends = r.reaches.ends;
              };
          below = λ j p.
              elim (ℕ_discrete j d) [
                | yes z ↦ omega (arith, a.reach)
                | no z ↦ r.below j (unfold cnt_by in (omega (arith, p, δ_neg j d z)))
              ];
        }

    go : (ran_on q (suc i) (codes S) (swap_at w d) ≡ ends goal → Routes q.swap_max (swap_at w d) goal S) → (b : Bool) → allows q (Swap d) (length w) ≡ b → onward i (λ v. ran_on q (suc i) (codes S) v) (Some (after (Swap d) w) if b otherwise None) ≡ ends goal → Routes q.swap_max w goal (d ∷ S)
    go h false z f = let n : ◌≡◌ {A = ℕ} 0 1 = cc in absurd (omega arith)
    go h true z f =
        let s : after (Swap d) w ≡ swap_at w d = unfold after in refl in
        next (h (rw s at f)) (allowed_swap q d (length w) z)
