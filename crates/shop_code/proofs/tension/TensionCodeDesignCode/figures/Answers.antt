use Rattle.std.proofs.Common.{rules}
use Rattle.shop_code.specs.Alike.{tension_same}
use Rattle.shop_code.proofs.tension.TensionCodeDesignCode.figures.Goals as goal

pub returns : goal.returns
returns c = search (rules, tension_same)
