use Rattle.clauses.proofs.Ratios.{bending_turns, shear_turns, tension_turns, compression_turns, laws_from_ratios}
use Rattle.clauses.proofs.clauses_obey_their_laws.Goals as goal

pub returns : goal.returns
returns c = record {
  bending = laws_from_ratios _ bending_turns;
  shear = laws_from_ratios _ shear_turns;
  tension = laws_from_ratios _ tension_turns;
  compression = laws_from_ratios _ compression_turns;
}
