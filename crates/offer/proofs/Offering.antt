-- Offering a successor.
use Rattle.std.proofs.Common.{◌≡◌, refl, sym, ap, ◌∙◌, Bool, true, false, Option, Some, None, List, [], ℕ, ◌+◌, arith}
use Rattle.costs.specs.declared.Cost.{Cost}
use Rattle.costs.specs.Packed.{cost_of}
use Rattle.window.specs.declared.PackedState.{PackedState}
use Rattle.window.specs.State.{whole}
use Rattle.algebra.specs.GasBytes.{gas_bytes}
use Rattle.astar.specs.Search.{Problem, Entry, Work, find, store, push, cut, better, node_of, entry_of, stored, offer}
use Rattle.lists.specs.View.{SearchNode, nodes_of, queue_of, Kept, Piled, Sought, Pushed}
use Rattle.lists.proofs.Nodes.{there_room}
use Rattle.offer.specs.Rules.{estimated, bare}
use Rattle.offer.specs.View.{sum, succ_of, hand_of, work_of, Inside, node_for, Admitted, Now, offered}
use Rattle.offer.specs.declared.Successor.{Successor}
use Rattle.offer.specs.declared.Held.{Held}
use Rattle.offer.specs.declared.Sizes.{Sizes}
use Rattle.offer.specs.declared.Origin.{Origin}
use Rattle.offer.proofs.Laws.{better_any}

-- ---- admit

pub all_inside : (xs hs : List ℕ) (n : ℕ) (s : PackedState) (at : Option ℕ) → Kept xs hs n → Sought xs n s at → Inside xs at
all_inside xs hs n s None K S = tt
all_inside xs hs n s (Some i) K S = there_room xs n s i (Some i) refl S hs K

-- ---- offer

module _ (held : Held) (p : Origin) (x : Successor) (s : Sizes) (xs os : List ℕ) (g f : ℕ)
    (gE : cost_of g ≡ sum (cost_of p.cost) (cost_of x.price))
    (fE : cost_of f ≡ sum (cost_of g) (cost_of x.est))
    (t : Bool) (tE : t ≡ cut gas_bytes (hand_of held) (cost_of f)) where
  abbrev w : Work Cost ℕ
  w = work_of xs os s

  abbrev Q : Problem gas_bytes
  Q = estimated (cost_of x.est)

  abbrev entry : Entry Cost
  entry = entry_of gas_bytes Q (cost_of p.cost) (succ_of x)

  f_is : cost_of f ≡ entry.f
  f_is = fE ∙ ap (λ (c : Cost). sum c (cost_of x.est)) gE

  cut_is : t ≡ true → offered held p x w ≡ w
  unfolding offer
  cut_is y = rw (← f_is, ← tE, y)

  -- cut off
  pub offer_cut : (hs : List ℕ) → t ≡ true → Kept xs hs s.nodes → Piled os s.list → Now 1 s (offered held p x w) xs hs os s
  offer_cut hs y K P = record { work = sym (cut_is y); kept = K; piled = P; nodes_most = omega arith; list_most = omega arith }

  module _ (no : t ≡ false) (ys gs : List ℕ) where
    -- whether it is better
    better_is : better gas_bytes (bare 0 0) (cost_of g) (find (whole x.state) (nodes_of xs s.nodes)) ≡ better gas_bytes Q entry.g (find (whole x.state) w.nodes)
    better_is =
        ap (λ (c : Cost). better gas_bytes (bare 0 0) c (find (whole x.state) w.nodes)) gE
        ∙ better_any (record { est = λ v. cost_of 0; after = λ v q. [] }) (record { est = λ v. cost_of x.est; after = λ v q. [] }) 0 0 0 0 entry.g (find (whole x.state) w.nodes)

    -- a node as cheap stands against it
    kept_is : better gas_bytes Q entry.g (find (whole x.state) w.nodes) ≡ false → offered held p x w ≡ w
    unfolding offer
    kept_is b = rw (← f_is, ← tE, no, b)

    pub offer_kept : Admitted xs s.nodes (node_for p x g) ys gs None → Piled os s.list → Now 1 s (offered held p x w) ys gs os s
    offer_kept A P = record {
      work = ap (λ (l : List SearchNode). record { nodes = l; queue = queue_of os s.list }) A.1 ∙ sym (kept_is (sym better_is ∙ A.0));
      kept = A.2;
      piled = P;
      nodes_most = omega arith;
      list_most = omega arith;
    }

    -- stored
    stored_is : better gas_bytes Q entry.g (find (whole x.state) w.nodes) ≡ true → offered held p x w ≡ stored gas_bytes Q (whole p.state) (cost_of p.cost) (succ_of x) w
    unfolding offer
    stored_is b = rw (← f_is, ← tE, no, b)

    pub offer_stored : (more : ℕ) → Admitted xs s.nodes (node_for p x g) ys gs (Some more) → (ps : List ℕ) → Pushed os s.list (record { f = f; g = g; state = x.state }) ps
        → Now 1 s (offered held p x w) ys gs ps (record { nodes = more; list = s.list + 1 })
    offer_stored more A ps P =
        let n : nodes_of ys more ≡ store (node_of gas_bytes Q (whole p.state) (cost_of p.cost) (succ_of x)) (nodes_of xs s.nodes) = cc (A.1.stored, gE) in
        let q : queue_of ps (s.list + 1) ≡ push gas_bytes entry (queue_of os s.list) = cc (P.pushed, gE, f_is) in
        record {
          work = cc (n, q, stored_is (sym better_is ∙ A.0));
          kept = A.1.kept;
          piled = P.piled;
          nodes_most = A.1.most;
          list_most = omega arith;
        }
