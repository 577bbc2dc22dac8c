use Rattle.std.proofs.Common.{◌≡◌, ◌∷◌, ◌++◌, [], length, arith, refl, sym, ap, subst, rules, length-append, append-nil}
use Rattle.std.proofs.lemmas.Grind.{common_steps}
use Rattle.std.specs.Iterator.Adapters.{rev_source}
use Rattle.std.specs.Slice.Iter.{iter_rest}
use Rattle.window.specs.Pack.{Keys}
use Rattle.window.specs.State.{Held, whole}
use Rattle.window.specs.Laws.{keys_behind}
use Rattle.window.proofs.PackedState.from_ids.Goals as goal

-- the window of no keys
empty : Held 6 (record { hi = 0; lo = 1 }) []
unfolding whole
empty = record { keys = tt; value = refl }

pub loop-key-init : goal.loop-key-init
loop-key-init c = ([], search (rules, append-nil), empty)

pub push-s-requires : goal.push-s-requires
push-s-requires c =
    let v = c.loop-key.invariant in
    let rest = iter_rest (rev_source c.next.new.self) in
    let e : rest ++ (c.in-Some.field-0.now ∷ v.0) ≡ c.args.ids.now = grind (arith, common_steps) in
    let k : Keys 6 (c.in-Some.field-0.now ∷ v.0) = keys_behind 6 rest _ (subst (Keys 6) (sym e) c.requires.0) in
    ((v.0, v.2, omega (arith, ap length e, length-append rest (c.in-Some.field-0.now ∷ v.0))), k.0)
