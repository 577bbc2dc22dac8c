use Rattle.std.proofs.Common.{rules, lives}
use Rattle.successors.specs.Successors.{dups, others, loads, other_at, load_at}
use Rattle.successors.specs.Listed.{each_up_to, room_first, room_second, room_third, all_three}
use Rattle.successors.specs.Whole.{keys_fit}
use Rattle.successors.proofs.Asked.put_rest.Goals as goal

pub put_each-requires : goal.put_each-requires
put_each-requires c κs within =
    let s = c.args.self.now in
    let n = c.args.near.now in
    let ds = dups s.kinds.now s.goal.now n.w.now n.reach in
    let os = others s.kinds.now s.prices.now s.keys.now n.w.now n.reach in
    let ls = loads s.kinds.now s.keys.now n.w.now n.reach in
    (search (lives, within) depth 24 fits 20000, ((λ i l. (search rules, λ r p. search rules)), room_first _ ds os ls c.requires))

pub put_each-requires-2 : goal.put_each-requires-2
put_each-requires-2 c κs within =
    let s = c.args.self.now in
    let n = c.args.near.now in
    let ds = dups s.kinds.now s.goal.now n.w.now n.reach in
    let os = others s.kinds.now s.prices.now s.keys.now n.w.now n.reach in
    let ls = loads s.kinds.now s.keys.now n.w.now n.reach in
    let fit = keys_fit _ _ s.accepted in (
      search (lives, within) depth 24 fits 20000,
      (
        (λ i l. let k = fit i l in (search rules, λ r p. search rules)),
        rw (each_up_to (other_at s.kinds.now s.prices.now n.w.now n.reach) s.keys.now) (room_second _ ds os ls c.requires _ c.put_each.ensures),
      ),
    )

pub put_each-requires-3 : goal.put_each-requires-3
put_each-requires-3 c κs within =
    let s = c.args.self.now in
    let n = c.args.near.now in
    let ds = dups s.kinds.now s.goal.now n.w.now n.reach in
    let os = others s.kinds.now s.prices.now s.keys.now n.w.now n.reach in
    let ls = loads s.kinds.now s.keys.now n.w.now n.reach in
    let fit = keys_fit _ _ s.accepted in
    let added = rw (each_up_to (other_at s.kinds.now s.prices.now n.w.now n.reach) s.keys.now) at c.put_each-2.ensures in (
      search (lives, within) depth 24 fits 20000,
      (
        (λ i l. let k = fit i l in (search rules, λ r p. search rules)),
        rw (each_up_to (load_at s.kinds.now n.w.now n.reach) s.keys.now) (room_third _ ds os ls c.requires _ c.put_each.ensures _ added),
      ),
    )

pub returns : goal.returns
returns c =
    let s = c.args.self.now in
    let n = c.args.near.now in
    let ds = dups s.kinds.now s.goal.now n.w.now n.reach in
    let os = others s.kinds.now s.prices.now s.keys.now n.w.now n.reach in
    let ls = loads s.kinds.now s.keys.now n.w.now n.reach in
    let added = rw (each_up_to (other_at s.kinds.now s.prices.now n.w.now n.reach) s.keys.now) at c.put_each-2.ensures in
    let all = rw (each_up_to (load_at s.kinds.now n.w.now n.reach) s.keys.now) at c.put_each-3.ensures in
    all_three _ ds os ls c.requires _ c.put_each.ensures _ added _ all
