use Rattle.keyed_table.proofs.Lookups.{finding, adding, removing, replacing}
use Rattle.keyed_table.proofs.laws.laws_of_rows.Goals as goal

pub returns : goal.returns
returns g c =
    let key = g.R.Numbered.key in
    record { finding = finding key; adding = adding key; removing = removing key; replacing = replacing key }
