use Rattle.std.proofs.Common.{rules}
use Rattle.shop_code.specs.Alike.{compression_same}
use Rattle.shop_code.proofs.compression.CompressionCodeDesignCode.figures.Goals as goal

pub returns : goal.returns
returns c = search (rules, compression_same)
