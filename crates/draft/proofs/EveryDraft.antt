-- Every draft can be written.
use Rattle.std.proofs.Common.{◌≡◌, ◌≤◌, true, ◌&&◌, leb, List, [], ◌∷◌, map, length, vec_items, refl, arith, le-leb}
use Rattle.std.specs.List.{AllByRecursion as All}
use Rattle.std.proofs.lemmas.List.{length-map}
use Rattle.values.specs.declared.scalar.ValueType.{ValueType}
use Rattle.values.specs.declared.scalar.ValueType.TheVariants.{Binary, Whole, Real}
use Rattle.draft.specs.declared.draft.Block.{Block}
use Rattle.draft.specs.Drafts.{block_means, EveryDraftFits}
use Rattle.draft.specs.File.{type_format, block_format}
use Rattle.draft.proofs.Bounds.{Within, block_out}
use Rattle.draft.proofs.FileLaws.{zeros_fit}

type_fits : (t : ValueType) → type_format.fits t
type_fits Binary = ((omega arith, refl), refl)
type_fits Whole = ((omega arith, refl), refl)
type_fits Real = ((omega arith, refl), refl)

types_fit : (ts : List ValueType) → All type_format.fits ts
types_fit [] = tt
types_fit (t ∷ ts) = (type_fits t, types_fit ts)

block_within : (b : Block) → Within (block_means b)
block_within b = record {
  known = b.known;
  short = omega (arith, b.name.ok.0, b.short);
  text = b.text;
  few_params = omega (arith, b.params.ok.0, b.few_params);
  sound = b.sound;
  few_sources = omega (arith, b.sources.ok.0, b.few_sources);
  within = b.within;
}

blocks_fit : (bs : List Block) → All block_format.fits (map block_means bs)
blocks_fit [] = tt
blocks_fit (b ∷ bs) = (block_out (block_means b) (block_within b), blocks_fit bs)

pub every_draft_fits : EveryDraftFits
every_draft_fits d =
    let cs = vec_items d.columns in
    let bs = vec_items d.blocks in
    let n = length (map block_means bs) in
    let columns : length cs ≤ 8 = omega (arith, d.columns.ok.0, d.few_columns) in
    let few : n ≤ 64 = omega (arith, length-map bs block_means, d.blocks.ok.0, d.few_blocks) in
    let some : 1 ≤ n = omega (arith, length-map bs block_means, d.blocks.ok.0, d.some_block) in
    let counted : leb 1 n && leb n 64 ≡ true = λ i. le-leb 1 n some i && le-leb n 64 few i in (
      (
        (((omega arith, refl), ((omega arith, le-leb (length cs) 8 columns), ((omega arith, counted), zeros_fit 5))), refl),
        ((((refl, types_fit cs), tt), refl), (refl, blocks_fit bs)),
      ),
      refl,
    )
