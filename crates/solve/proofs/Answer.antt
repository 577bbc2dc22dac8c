-- The answer is the definition's.
use Rattle.std.proofs.Common.{◌≡◌, refl, sym, ap, ap₂, subst, ◌∙◌, Bool, false, cond, Option, None, Some, List, [], ◌∷◌, ℕ, zero, suc, ◌≤◌, arith, eqb, length, take, drop}
use Rattle.std.specs.Option.{option_map}
use Rattle.costs.specs.declared.Cost.{Cost}
use Rattle.costs.specs.Cost.{plus, none as no-cost}
use Rattle.costs.specs.Packed.{cost_of}
use Rattle.costs.specs.Price.{cost_from, cost_for_steps}
use Rattle.costs.specs.Table.{prices_fault}
use Rattle.window.specs.State.{whole}
use Rattle.algebra.specs.GasBytes.{gas_bytes, sum_is, domain_fits}
use Rattle.astar.specs.Maybe.{bind}
use Rattle.astar.specs.Search.{Problem, Hand, Search, Ending as Ended, number, find, parent_in, read_back}
use Rattle.astar.specs.Again.{Ends}
use Rattle.astar.specs.Room.{Bounded}
use Rattle.astar.specs.Sound.{Good}
use Rattle.astar.proofs.Hold.{reach_good, begin_good}
use Rattle.astar.specs.Back.{Plan as Sound, reads_back}
use Rattle.astar.specs.Planner.{Found, given, sum_steps, read_at, plan_at, plan_of, first, answer_of, searched}
use Rattle.astar.proofs.Branch.{searched_is}
use Rattle.successors.specs.Successors.{Question}
use Rattle.successors.specs.Limits.{Bounds}
use Rattle.problem.specs.Problem.{problem_of, bounded}
use Rattle.lists.specs.View.{SearchNode, nodes_of}
use Rattle.offer.specs.Rules.{Rules, coded}
use Rattle.search.specs.View.{rules_of}
use Rattle.run.specs.Ending.{ended_by}
use Rattle.run.specs.View.{problem_for, allowance, Ran}
use Rattle.run.specs.declared.Allowances.{Allowances}
use Rattle.run.specs.declared.Ask.{Ask}
use Rattle.run.specs.declared.Left.{Left}
use Rattle.back.specs.Back.{plan}
use Rattle.solve.specs.View.{first_of, PlanRead, priced_by, plan_told, told, steps_in, SearchedFor}
use Rattle.solve.specs.declared.Plan.{Plan}
use Rattle.solve.specs.declared.Outcome.{Outcome}

-- ---- the cost of steps

plus_gas : (a b : Cost) → (plus a b).gas ≤ 4294967295
unfolding plus
plus_gas a b = omega arith

plus_bytes : (a b : Cost) → (plus a b).bytes ≤ 4294967295
unfolding plus
plus_bytes a b = omega arith

sums_from : (prices : List ℕ) (c : Cost) (bs : List ℕ) → c.gas ≤ 4294967295 → c.bytes ≤ 4294967295 → cost_from prices c bs ≡ sum_steps gas_bytes (priced_by prices) c bs
sums_from prices c [] g h = refl
sums_from prices c (b ∷ bs) g h =
    sums_from prices (plus c (priced_by prices b)) bs (plus_gas c (priced_by prices b)) (plus_bytes c (priced_by prices b))
    ∙ ap (λ (d : Cost). sum_steps gas_bytes (priced_by prices) d bs) (sym (sum_is c (priced_by prices b) g h))

sums_are : (prices bs : List ℕ) → cost_for_steps prices bs ≡ sum_steps gas_bytes (priced_by prices) gas_bytes.𝟘 bs
sums_are prices bs = sums_from prices no-cost bs (omega arith) (omega arith)

-- ---- a read-back does not look at the rules

back_zero : (R R' : Rules) (a b : ℕ) (ns : List SearchNode) (v : ℕ) (bs : List ℕ) → read_back gas_bytes (coded R a b) 0 ns v bs ≡ read_back gas_bytes (coded R' a b) 0 ns v bs
unfolding read_back
back_zero R R' a b ns v bs = refl

back_bind : (o : Option (ℕ × ℕ)) (f g : ℕ × ℕ → Option (List ℕ)) → ((r : ℕ × ℕ) → f r ≡ g r) → bind o f ≡ bind o g
back_bind None f g h = refl
back_bind (Some r) f g h = h r

back_more : (R R' : Rules) (a b k : ℕ) (ns : List SearchNode) (v : ℕ) (bs : List ℕ) → ((p : ℕ) (ds : List ℕ) → read_back gas_bytes (coded R a b) k ns p ds ≡ read_back gas_bytes (coded R' a b) k ns p ds) → read_back gas_bytes (coded R a b) (suc k) ns v bs ≡ read_back gas_bytes (coded R' a b) (suc k) ns v bs
unfolding read_back
back_more R R' a b k ns v bs up = ap (cond (eqb v a) (Some bs)) (back_bind (parent_in (find v ns)) (λ r. read_back gas_bytes (coded R a b) k ns r.0 (r.1 ∷ bs)) (λ r. read_back gas_bytes (coded R' a b) k ns r.0 (r.1 ∷ bs)) (λ r. up r.0 (r.1 ∷ bs)))

back_any : (R R' : Rules) (a b k : ℕ) (ns : List SearchNode) (v : ℕ) (bs : List ℕ) → read_back gas_bytes (coded R a b) k ns v bs ≡ read_back gas_bytes (coded R' a b) k ns v bs
back_any R R' a b zero ns v bs = back_zero R R' a b ns v bs
back_any R R' a b (suc k) ns v bs = back_more R R' a b k ns v bs (λ p d. back_any R R' a b k ns p d)

same_plan : (q : Question) (a : Ask) (ns : List SearchNode) (k : ℕ) → read_back gas_bytes (problem_for q a) (suc k) ns (whole a.goal) [] ≡ plan a.start a.goal k ns
same_plan q a ns k = back_any (rules_of q) (record { est = λ v. cost_of 0; after = λ v p. [] }) (whole a.start) (whole a.goal) (suc k) ns (whole a.goal) []

-- ---- a goal that was recorded is read back

pub bounded_for : (q : Question) (a : Ask) → Bounds q → prices_fault q.prices ≡ false → Bounded gas_bytes (problem_for q a) 50 30000
bounded_for q a b f = let B : Bounded gas_bytes (problem_of q []) 50 30000 = bounded q [] b f in record { number = B.number; prices = B.prices }

module _ (q : Question) (a : Ask) (l : Allowances) (b : Bounds q) (f : prices_fault q.prices ≡ false) (few : l.max_expansions ≤ 65536) (bound : Cost) (have : Bool) (s : Search Cost ℕ) (e : Ended) (E : Ends gas_bytes (problem_for q a) (allowance l) (first_of q a bound have) s e) where
  abbrev Q : Problem gas_bytes
  Q = problem_for q a

  pub good : Good gas_bytes Q 30000 (allowance l) s
  good =
      let B : Bounded gas_bytes Q 50 30000 = bounded_for q a b f in
      reach_good gas_bytes Q 50 30000 B (allowance l) (domain_fits l.max_expansions few) E.reached (begin_good gas_bytes Q 50 30000 B (allowance l) (domain_fits l.max_expansions few) bound have)

  pub read_plan : (g : Cost) → s.hand.last ≡ Some g → Sound gas_bytes Q s g
  read_plan g h = reads_back gas_bytes Q 50 30000 (bounded_for q a b f) (allowance l) (domain_fits l.max_expansions few) s good g h

  never_lost : (k : ℕ) → s.count ≡ k → (g : Cost) → s.hand.last ≡ Some g → plan a.start a.goal k s.work.nodes ≡ None → ⊥
  never_lost k c g h n =
      let P : Sound gas_bytes Q s g = read_plan g h in
      cc (n, same_plan q a s.work.nodes k, c, P.read)

-- ---- the answer

module _ (q : Question) (a : Ask) (bound : Cost) (held : Option (Found Cost ℕ)) where
  abbrev plan_in : Option Cost → ℕ → List SearchNode → Option (Found Cost ℕ)
  plan_in = plan_at gas_bytes (problem_for q a) (priced_by q.prices) 50 bound held

  -- what is told of a plan is what the definition reads back
  plan_is : (ns : List SearchNode) (k : ℕ) (xs ys : List ℕ) (f : Option ℕ) (p : Option Plan) → ((g : ℕ) → f ≡ Some g → plan a.start a.goal k ns ≡ None → ⊥) → PlanRead a q.prices ns k xs ys f p → plan_told held p ys ≡ plan_in (option_map cost_of f) k ns
  plan_is ns k xs ys None p n S = rw S.1
  plan_is ns k xs ys (Some g) None n S = absurd (n g refl S.0)
  plan_is ns k xs ys (Some g) (Some p) n S =
      ap₂ (λ (c d : Cost). Some (record { origin = 3; steps = take p.steps ys; cost = c; ceiling = d })) (S.1 ∙ sums_are q.prices (take p.steps ys)) S.2
      ∙ sym (ap (read_at gas_bytes (problem_for q a) (priced_by q.prices) 50 bound held (cost_of g)) (same_plan q a ns k ∙ S.0.steps_are))

rest_by : (a : Ask) (prices : List ℕ) (ns : List SearchNode) (k : ℕ) (xs ys : List ℕ) (f : Option ℕ) (p : Option Plan) → PlanRead a prices ns k xs ys f p → drop (steps_in p) ys ≡ drop (steps_in p) xs
rest_by a prices ns k xs ys None p S = rw (S.1, S.0)
rest_by a prices ns k xs ys (Some g) None S = S.1
rest_by a prices ns k xs ys (Some g) (Some p) S = S.0.rest

fits_by : (a : Ask) (prices : List ℕ) (ns : List SearchNode) (k : ℕ) (xs ys : List ℕ) (f : Option ℕ) (p : Option Plan) → PlanRead a prices ns k xs ys f p → steps_in p ≤ length ys
fits_by a prices ns k xs ys None p S = rw S.1 (omega arith)
fits_by a prices ns k xs ys (Some g) None S = omega arith
fits_by a prices ns k xs ys (Some g) (Some p) S = S.0.fits

module _ (q : Question) (a : Ask) (l : Allowances) (bd : Bounds q) (pf : prices_fault q.prices ≡ false) (few : l.max_expansions ≤ 65536) (b : Cost) (have : Bool)
    (zs gs : List ℕ) (r : Left) (R : Ran q a l (first_of q a b have) zs gs r) (xs ys : List ℕ) (p : Option Plan) (S : PlanRead a q.prices (nodes_of zs r.nodes) r.count xs ys r.held.found p) where
  abbrev out : Outcome
  out = record { plan = p; ending = r.ending; expansions = r.count }

  abbrev ended : Ended
  ended = ended_by r.ending

  not_lost : (g : ℕ) → r.held.found ≡ Some g → plan a.start a.goal r.count (nodes_of zs r.nodes) ≡ None → ⊥
  not_lost g e h =
      never_lost q a l bd pf few b have R.last ended R.ends r.count R.count_is (cost_of g)
      (ap (λ (x : Hand Cost). x.last) R.hand_is ∙ ap (option_map cost_of) e) (rw R.nodes_are h)

  answer_is : (held : Option (Found Cost ℕ)) → given held ≡ have → told held out ys ≡ searched gas_bytes (problem_for q a) (priced_by q.prices) 50 b held (allowance l)
  unfolding plan_of
  answer_is held g =
      let E : Ends gas_bytes (problem_for q a) (allowance l) (first gas_bytes (problem_for q a) (priced_by q.prices) 50 b held) R.last ended = subst (λ (t : Bool). Ends gas_bytes (problem_for q a) (allowance l) (first_of q a b t) R.last ended) (sym g) R.ends in
      let A : searched gas_bytes (problem_for q a) (priced_by q.prices) 50 b held (allowance l) ≡ answer_of gas_bytes (problem_for q a) (priced_by q.prices) 50 b held R.last (number ended) = searched_is gas_bytes (problem_for q a) (priced_by q.prices) 50 30000 (bounded_for q a bd pf) b held (allowance l) R.last ended E in
      let t : plan_told held p ys ≡ plan_in q a b held (option_map cost_of r.held.found) r.count (nodes_of zs r.nodes) = plan_is q a b held (nodes_of zs r.nodes) r.count xs ys r.held.found p not_lost S in
      cc (t, A, R.hand_is, R.count_is, R.nodes_are)

  pub searched_all : SearchedFor q a l b have out xs ys
  searched_all = record {
    answer = answer_is;
    rest = rest_by a q.prices (nodes_of zs r.nodes) r.count xs ys r.held.found p S;
    fits = fits_by a q.prices (nodes_of zs r.nodes) r.count xs ys r.held.found p S;
  }
