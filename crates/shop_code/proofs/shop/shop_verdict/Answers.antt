use Rattle.shop_code.proofs.Reading.{read}
use Rattle.shop_code.proofs.shop.shop_verdict.Goals as goal

pub returns : goal.returns
returns c = read _ _ _ _ c.appraise.ensures
