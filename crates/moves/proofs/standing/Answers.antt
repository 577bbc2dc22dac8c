use Rattle.moves.specs.Told.{asking_fit, asking_bare}
use Rattle.moves.proofs.standing.Goals as goal

pub bare-base-requires : goal.bare-base-requires
bare-base-requires c = asking_fit _ _ _ _ c.requires.2.1

pub standing-requires : goal.standing-requires
standing-requires c =
    let a = c.requires.2 in
    (c.requires.0, (a.0, asking_bare _ _ _ _ _ _ a.0 c.requires.1 a.1 c.bare-base.ensures, a.1.short))

pub returns : goal.returns
returns c = λ goal dup_max a m. record {
  window = c.requires.0;
  standing = c.standing.ensures goal (asking_bare _ _ _ _ _ _ goal c.requires.1 a c.bare-base.ensures) a.short;
  short = a.short;
  least = m;
}
