use Rattle.line_service.proofs.Steps.{ends}
use Rattle.line_service.proofs.service.LineService.finish.Goals as goal

pub returns-in_err-end_line-clause-ends : goal.returns-in_err-end_line-clause-ends
returns-in_err-end_line-clause-ends g c = ends g.R.Responder.manner _ _

pub returns-in_ok-end_line-clause-ends : goal.returns-in_ok-end_line-clause-ends
returns-in_ok-end_line-clause-ends g c = ends g.R.Responder.manner _ _
