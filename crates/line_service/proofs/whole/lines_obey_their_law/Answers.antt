use Rattle.line_service.proofs.Partings.{cut}
use Rattle.line_service.proofs.whole.lines_obey_their_law.Goals as goal

pub returns : goal.returns
returns c = record { cut = cut }
