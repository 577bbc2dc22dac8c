-- An expansion as a whole: what it may rest on, what it gives, and the law that puts its parts together.
use Rattle.std.specs.Prelude.{ℕ, ◌+◌, ◌≤◌, ◌<◌, min, ◌≡◌, List, [], ◌++◌}
use Rattle.std.proofs.Math.Path.{ap}
use Rattle.std.proofs.Common.{◌∙◌, arith, append_assoc, length-append}
use Rattle.std.proofs.Math.ListN.{length}
use Rattle.std.proofs.Props.{props}
use Rattle.window.specs.Props.{keys_prop}
use Rattle.window.specs.Pack.{Keys}
use Rattle.costs.specs.declared.Step.{Step}
use Rattle.replay.specs.Machine.{ruled}
use Rattle.replay.specs.declared.rules.SearchCfg.{SearchCfg}
use Rattle.window.specs.declared.PackedState.{PackedState}
use Rattle.window.specs.Laws.{key_lt}
use Rattle.window.specs.Keys.{keys_of, Window, keys_length}
use Rattle.successors.specs.Parts.{up_to, all_at}
use Rattle.successors.specs.Successors.{Question, suffix_start, pops, firsts, zeros, swap_at, dups, others, loads, grown, steps_from}
use Rattle.successors.specs.Limits.{Bounds, steps_at_most, firsts_keys}
use Rattle.successors.specs.Keys.{KeysFit, Keyed}
use Rattle.successors.specs.Listed.{Roomy}

abbrev pub asked : SearchCfg → (kinds prices goal : List ℕ) → Question
asked cfg kinds prices goal = record { rules = ruled cfg kinds; prices = prices; goal = goal }

-- what an expansion rests on beside the window: the question is an accepted one, and keys are the goal's, each once
pub record Expanding (q : Question) (ks : List ℕ) : Type 0 where
  pub kinds : length q.rules.kinds ≡ 64
  pub bounds : Bounds q
  pub keys : ks ≡ firsts q.goal

-- there is one proof of it
pub expanding_prop : (q : Question) (ks : List ℕ) → IsProp (Expanding q ks)
expanding_prop q ks = Prim.hlevel (props, keys_prop)

-- the goal's keys are below 64
pub firsts_fit : (goal : List ℕ) → Keys 6 goal → KeysFit (firsts goal)
firsts_fit goal k = all_at (λ k. k < 64) (firsts goal) 0 (firsts_keys goal k)

pub keys_fit : (q : Question) (ks : List ℕ) → Expanding q ks → KeysFit ks
keys_fit q ks e = rw e.keys (firsts_fit q.goal e.bounds.keys)

-- the keys of a window are such a list
pub keyed : (state : PackedState) (w : List ℕ) → Window state → w ≡ keys_of state → Keyed w
keyed state w h e = rw e (record { fit = λ i l. key_lt 6 (keys_of state) i h.keys; few = keys_length state })

-- the four parts, by the numbers that the code has at hand
module _ (q : Question) (w ks : List ℕ) (start limit last : ℕ) where
  abbrev pub part_zero : List Step
  part_zero = grown q.rules.max_len (length w) (zeros q.rules.kinds ks)

  abbrev pub part_swap : List Step
  part_swap = up_to (swap_at w q.rules.dup_max start last) limit

  abbrev pub part_rest : List Step
  part_rest =
      let reach = min (length w) q.rules.dup_max in
      grown q.rules.max_len (length w) (dups q.rules.kinds q.goal w reach ++ (others q.rules.kinds q.prices ks w reach ++ loads q.rules.kinds ks w reach))

  module _ (hs : start ≡ suffix_start w q.goal) (hl : limit ≡ min (length w) q.rules.swap_max) (x : Expanding q ks) where
    parts_are : pops w ++ (part_zero ++ (part_swap ++ part_rest)) ≡ steps_from q w last
    unfolding steps_from
    parts_are = rw (hl, hs, x.keys)

    whole_room : length (pops w ++ (part_zero ++ (part_swap ++ part_rest))) ≤ 50
    whole_room = rw parts_are (steps_at_most q x.bounds w last)

    sums : length (pops w ++ (part_zero ++ (part_swap ++ part_rest))) ≡ length (pops w) + (length part_zero + (length part_swap + length part_rest))
    sums =
        omega (
          arith,
          length-append (pops w) (part_zero ++ (part_swap ++ part_rest)),
          length-append part_zero (part_swap ++ part_rest),
          length-append part_swap part_rest,
        )

    -- the list after each part: o is empty, and a, b, d and e have a part more each
    module _ (o : List Step) (z : o ≡ []) where
      pub room_pop : Roomy o (pops w)
      room_pop = omega (arith, whole_room, sums, ap length z)

      module _ (a : List Step) (ha : a ≡ o ++ pops w) where
        pub room_zero : Roomy a part_zero
        room_zero = omega (arith, whole_room, sums, ap length z, ap length ha, length-append o (pops w))

        module _ (b : List Step) (hb : b ≡ a ++ part_zero) where
          pub room_swap : Roomy b part_swap
          room_swap = omega (arith, whole_room, sums, ap length z, ap length ha, length-append o (pops w), ap length hb, length-append a part_zero)

          module _ (d : List Step) (hd : d ≡ b ++ part_swap) where
            pub room_rest : Roomy d part_rest
            room_rest = omega (arith, whole_room, sums, ap length z, ap length ha, length-append o (pops w), ap length hb, length-append a part_zero, ap length hd, length-append b part_swap)

            pub made : (e : List Step) → e ≡ d ++ part_rest → e ≡ steps_from q w last
            made e he =
                he
                ∙ rw (hd, hb, ha, z, append_assoc (pops w ++ part_zero) part_swap part_rest, append_assoc (pops w) part_zero (part_swap ++ part_rest)) parts_are
