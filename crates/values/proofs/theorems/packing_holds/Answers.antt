use Rattle.values.proofs.Packing.{nan_packs, values_pack, cells_unpack, states_pack, states_unpack, rows_pack, rows_unpack}
use Rattle.values.proofs.theorems.packing_holds.Goals as goal

pub returns : goal.returns
returns c = record {
  nan_packs = nan_packs;
  values_pack = values_pack;
  cells_unpack = cells_unpack;
  states_pack = states_pack;
  states_unpack = states_unpack;
  rows_pack = rows_pack;
  rows_unpack = rows_unpack;
}
