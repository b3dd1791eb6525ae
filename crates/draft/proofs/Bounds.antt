-- The limits of drafts are those of files.
use Rattle.std.proofs.Common.{◌≡◌, ℕ, ◌<◌, ◌≤◌, Bool, true, false, ◌&&◌, T, leb, List, [], ◌∷◌, length, Ok, sym, refl, ap, ◌∙◌, subst, arith, to_z-of_z, w16, SFits, to_z, of_z, ltb-true, lt-ltb, le-leb, leb-true}
use lib.Ieee.{binary32, fits, of_bits, to_bits}
use lib.Ieee.Bits.{of_bits-to_bits, to_bits-lt, of_bits-fits, is_true}
use lib.Signed.{mag}
use mir.Facts.{sfits_to_z, Fits-of_z}
use borrow.Author.Tests.{clash}
use Rattle.std.specs.Float.{float_is_finite as is_finite}
use Rattle.std.specs.List.{AllByRecursion as All}
use Rattle.values.specs.declared.scalar.Value.{Value}
use Rattle.values.specs.declared.scalar.Value.TheVariants as Values
use Rattle.draft.specs.declared.source.Source.{Source}
use Rattle.draft.specs.declared.source.Source.TheVariants as Sources
use Rattle.draft.specs.Limits.{every, printable, holdable, numbered}
use Rattle.draft.specs.File.{BlockOf, DraftOf, source_format, param_format, cell_format, name_byte, block_format, read_file}
use Rattle.draft.proofs.Params.{finite_bits}
use Rattle.draft.proofs.RoundTrip.{writes_read}

both : (a b : Bool) → a && b ≡ true → (a ≡ true) × (b ≡ true)
both true b h = (refl, h)
both false b h = absurd (clash h)

all_every : {A : Type 0} (test : A → Bool) (P : A → Type 0) → ((x : A) → P x → test x ≡ true) → (xs : List A) → All P xs → every test xs ≡ true
all_every test P f [] h = refl
all_every test P f (x ∷ xs) h = (λ i. f x h.0 i && all_every test P f xs h.1 i)

every_all : {A : Type 0} (test : A → Bool) (P : A → Type 0) → ((x : A) → test x ≡ true → P x) → (xs : List A) → every test xs ≡ true → All P xs
every_all test P f [] h = tt
every_all test P f (x ∷ xs) h = let b = both (test x) (every test xs) h in (f x b.0, every_all test P f xs b.1)

source_in : (s : Source) → source_format.fits s → numbered s ≡ true
source_in (Sources.Column n) h = lt-ltb n 128 h.0.1.0
source_in (Sources.Block n) h = lt-ltb n 128 h.0.1.0

source_out : (s : Source) → numbered s ≡ true → source_format.fits s
source_out (Sources.Column n) h = (((omega arith, refl), (ltb-true n 128 h, refl)), refl)
source_out (Sources.Block n) h = (((omega arith, refl), (ltb-true n 128 h, refl)), refl)

value_in : (v : Value) → param_format.fits v → holdable v ≡ true
value_in (Values.Binary b) h = refl
value_in (Values.Whole z) h =
    let e : to_z w16 (of_z w16 z) ≡ z = cc h.0.1 in
    lt-ltb (mag z) 0x8000 (subst (λ y. mag y < 0x8000) e (sfits_to_z {w = w16} {n = of_z w16 z} (record { fits = h.0.0.1.0 })).sfits)
value_in (Values.Real x) h =
    let e : of_bits binary32 (to_bits binary32 x) ≡ x = cc h.1 in
    (λ i. (ap is_finite (sym e) ∙ finite_bits (to_bits binary32 x) ∙ h.0.0.1.1) i && is_true (fits binary32 x) (subst (λ y. T (fits binary32 y)) e (of_bits-fits binary32 (to_bits binary32 x))) i)

bit_back : (b : Bool) → cell_format.fits (Rattle.values.specs.declared.packed.Cell.TheVariants.Binary b)
bit_back true = ((((omega arith, refl), refl), (omega arith, refl)), refl)
bit_back false = ((((omega arith, refl), refl), (omega arith, refl)), refl)

value_out : (v : Value) → holdable v ≡ true → param_format.fits v
value_out (Values.Binary b) h = (bit_back b, refl)
value_out (Values.Whole z) h =
    let s : SFits w16 z = record { sfits = ltb-true (mag z) 0x8000 h } in
    (((((omega arith, refl), refl), (omega (arith, (Fits-of_z {w = w16} s).fits), refl)), ap Rattle.values.specs.declared.packed.Cell.TheVariants.Whole (to_z-of_z {w = w16} s)), refl)
value_out (Values.Real x) h =
    let b = both (is_finite x) (fits binary32 x) h in
    let f : T (fits binary32 x) = subst T (sym b.1) tt in
    let e = of_bits-to_bits binary32 x f in
    (((((omega arith, refl), refl), (to_bits-lt binary32 x f, sym (finite_bits (to_bits binary32 x)) ∙ ap is_finite e ∙ b.0)), refl), ap Values.Real e)

-- a block that a file can hold is within the limits
pub record Within (b : BlockOf) : Type 0 where
  pub known : b.kind < 64
  pub short : length b.name ≤ 8
  pub text : every printable b.name ≡ true
  pub few_params : length b.params ≤ 4
  pub sound : every holdable b.params ≡ true
  pub few_sources : length b.sources ≤ 4
  pub within : every numbered b.sources ≡ true

pub block_in : (b : BlockOf) → block_format.fits b → Within b
block_in b h =
    let head = h.0.0 in
    let body = h.0.1 in
    record {
      known = head.0.0;
      short = leb-true _ _ head.1.1.1.1;
      text = all_every printable name_byte.fits (λ _ f. f.1) b.name body.1.1.1.1;
      few_params = leb-true _ _ head.1.1.0.1;
      sound = all_every holdable param_format.fits value_in b.params body.1.0.1;
      few_sources = leb-true _ _ head.1.0.1;
      within = all_every numbered source_format.fits source_in b.sources body.0.1;
    }

name_out : (b : ℕ) → printable b ≡ true → name_byte.fits b
name_out b h = let t = both (leb 32 b) (leb b 126) h in (omega (arith, leb-true b 126 t.1), h)

pub block_out : (b : BlockOf) → Within b → block_format.fits b
block_out b w = (
  (
    ((w.known, refl), ((omega (arith, w.few_sources), le-leb _ _ w.few_sources), ((omega (arith, w.few_params), le-leb _ _ w.few_params), (omega (arith, w.short), le-leb _ _ w.short)))),
    ((refl, every_all numbered source_format.fits source_out b.sources w.within), ((refl, every_all holdable param_format.fits value_out b.params w.sound), (tt, (refl, every_all printable name_byte.fits name_out b.name w.text)))),
  ),
  refl,
)

-- a draft that a file can hold is within the limits
pub draft_in : (bytes : List ℕ) (d : DraftOf) → read_file bytes ≡ Ok d → (length d.columns ≤ 8) × (1 ≤ length d.blocks) × (length d.blocks ≤ 64)
draft_in bytes d e =
    let f = (writes_read d bytes e).0.0.0.0 in
    let n = both (leb 1 (length d.blocks)) (leb (length d.blocks) 64) f.1.1.0.1 in
    (leb-true _ _ f.1.0.1, leb-true _ _ n.0, leb-true _ _ n.1)
