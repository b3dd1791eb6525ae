-- Formats that read a value exactly where its bits stand.
use Rattle.std.proofs.Common.{◌≡◌, ℕ, zero, suc, ◌+◌, ◌-◌, ◌^◌, ◌<◌, ◌≤◌, Bool, true, false, cond, leb, List, [], ◌∷◌, length, take, Ok, Err, sym, refl, ap, ◌∙◌, subst, inl, inr, arith, length-append, leb-false, leb-true}
use Rattle.std.specs.Int.Digits.{AllBelowBase}
use Rattle.draft.specs.declared.fault.ReadFault.{ReadFault}
use Rattle.draft.specs.declared.fault.ReadFault.TheVariants.{CutShort}
use Rattle.draft.specs.Bits.{field, value_at}
use Rattle.draft.specs.Format.{Format, Stands, bind, read_field, number, then, times, via, bits_all, size_all, read_all}
use Rattle.draft.specs.Refused.{place_of, Field, Shows}
use Rattle.draft.proofs.BitLaws.{length_field}
use Rattle.draft.proofs.Binds.{bind_ok, bind_err, tested, failed}
use Rattle.draft.proofs.Fields.{stands_first, stands_second, stands_both, stands_within, stands_room, stands_none, stands_front, stands_after, value_at_lt, value_at_field, field_value_at, read_field_whole}

-- a value at p is refused: up to the place of the fault some other stands there, and the fault shows
pub record Refused {A : Type 0} (F : Format A) (file : List ℕ) (p : ℕ) (e : ReadFault) : Type 0 where
  pub from : p ≤ place_of e
  pub within : place_of e ≤ length file
  pub shows : Shows file e
  pub other : A
  pub fits : F.fits other
  pub near : place_of e ≤ p + F.size p other
  pub stands : Stands file p (take (place_of e - p) (F.bits p other))

pub record Exact {A : Type 0} (F : Format A) : Type 0 where
  pub some : (a : A) × F.fits a
  pub long : (p : ℕ) (a : A) → length (F.bits p a) ≡ F.size p a
  pub sound : (file : List ℕ) (p : ℕ) (a : A) → AllBelowBase 2 file → F.read file p ≡ Ok a → F.fits a × Stands file p (F.bits p a)
  pub whole : (file : List ℕ) (p : ℕ) (a : A) → F.fits a → Stands file p (F.bits p a) → F.read file p ≡ Ok a
  pub first : (file : List ℕ) (p : ℕ) (e : ReadFault) → AllBelowBase 2 file → p ≤ length file → F.read file p ≡ Err e → Refused F file p e

-- a value of w bits, where what fails the test shows
module _ (w : ℕ) (test : ℕ → Bool) (fault : ℕ → ReadFault) (some : 0 < w) (few : w ≤ 32) (v : ℕ) (fit : (v < 2 ^ w) × (test v ≡ true)) where
  here : (file : List ℕ) (p : ℕ) (e : ReadFault) → p ≤ length file → place_of e ≡ p → Shows file e → Refused (number w test fault) file p e
  here file p e h at s = record {
    from = omega arith;
    within = omega arith;
    shows = s;
    other = v;
    fits = fit;
    near = omega arith;
    stands = stands_none file p (place_of e) (field w v) at;
  }

  cut : (file : List ℕ) (p : ℕ) (e : ReadFault) → p ≤ length file → read_field file p w ≡ Err e → Refused (number w test fault) file p e
  cut file p e h r =
      let t = failed (leb (p + w) (length file)) (value_at file p w) (CutShort p) e r in
      subst (Refused (number w test fault) file p) t.1 (here file p (CutShort p) h refl (omega (arith, leb-false (p + w) (length file) t.0)))

pub number_exact : (w : ℕ) (test : ℕ → Bool) (fault : ℕ → ReadFault) → 0 < w → w ≤ 32 → (v : ℕ) → (v < 2 ^ w) × (test v ≡ true) → ((p : ℕ) → place_of (fault p) ≡ p) → ((file : List ℕ) (p : ℕ) → Field file p w (λ u. test u ≡ false) → Shows file (fault p)) → Exact (number w test fault)
number_exact w test fault some few v fit place shows = record {
  some = (v, fit);
  first = λ file p e u h r.
      elim (bind_err (read_field file p w) (λ x. cond (test x) (Ok x) (Err (fault p))) e r) [
        | inl c ↦ cut w test fault some few v fit file p e h c
        | inr c ↦
            let q = tested (leb (p + w) (length file)) (value_at file p w) c.0 (CutShort p) c.1 in
            let t = failed (test c.0) c.0 (fault p) e c.2 in
            subst (Refused (number w test fault) file p) t.1
            (here w test fault some few v fit file p (fault p) h (place p) (shows file p (leb-true (p + w) (length file) q.0, ap test q.1 ∙ t.0)))
      ];
  long = λ p a. length_field w a;
  sound = λ file p a u h.
      let r = bind_ok (read_field file p w) (λ v. cond (test v) (Ok v) (Err (fault p))) a h in
      let q = tested (leb (p + w) (length file)) (value_at file p w) r.0 (CutShort p) r.1 in
      let t = tested (test r.0) r.0 a (fault p) r.2 in
      let same : value_at file p w ≡ a = q.1 ∙ t.1 in (
        (subst (λ v. v < 2 ^ w) same (value_at_lt file p w u), ap test (sym t.1) ∙ t.0),
        subst (λ v. Stands file p (field w v)) same (field_value_at file p w u (leb-true (p + w) (length file) q.0)),
      );
  whole = λ file p a f h.
      let within = stands_within file p (field w a) (omega (arith, length_field w a)) h in
      ap (λ r. bind r (λ v. cond (test v) (Ok v) (Err (fault p)))) (read_field_whole file p w (omega (arith, length_field w a)) ∙ ap Ok (value_at_field file p w a f.0 h))
      ∙ ap (λ t. cond t (Ok a) (Err (fault p))) f.1;
}

room : {A : Type 0} (F : Format A) → Exact F → (file : List ℕ) (p : ℕ) (a : A) → p ≤ length file → Stands file p (F.bits p a) → p + F.size p a ≤ length file
room F f file p a h s = omega (arith, stands_room file p (F.bits p a) h s, f.long p a)

-- the first of two is refused, or the second
module _ {A B : Type 0} (F : Format A) (G : A → Format B) (f : Exact F) where
  before : ((a : A) → (b : B) × (G a).fits b) → (file : List ℕ) (p : ℕ) (e : ReadFault) → Refused F file p e → Refused (then F G) file p e
  before some file p e r =
      let b = some r.other in
      record {
        from = r.from;
        within = r.within;
        shows = r.shows;
        other = (r.other, b.0);
        fits = (r.fits, b.1);
        near = omega (arith, r.near);
        stands = stands_front file p (place_of e - p) (F.bits p r.other) _ (omega (arith, r.near, f.long p r.other)) r.stands;
      }

  after : (file : List ℕ) (p : ℕ) (e : ReadFault) (a : A) → F.fits a × Stands file p (F.bits p a) → Refused (G a) file (p + F.size p a) e → Refused (then F G) file p e
  after file p e a s r = record {
    from = omega (arith, r.from);
    within = r.within;
    shows = r.shows;
    other = (a, r.other);
    fits = (s.0, r.fits);
    near = omega (arith, r.near);
    stands = stands_after file p (p + F.size p a) (place_of e) (F.bits p a) _ (omega (arith, f.long p a)) r.from s.1 r.stands;
  }

pub then_exact : {A B : Type 0} (F : Format A) (G : A → Format B) → Exact F → ((a : A) → Exact (G a)) → Exact (then F G)
then_exact F G f g = record {
  some = (let a = f.some in let b = (g a.0).some in ((a.0, b.0), (a.1, b.1)));
  first = λ file p e u h r.
      elim (bind_err (F.read file p) (λ a. bind ((G a).read file (p + F.size p a)) (λ b. Ok (a, b))) e r) [
        | inl c ↦ before F G f (λ a. (g a).some) file p e (f.first file p e u h c)
        | inr c ↦ elim (bind_err ((G c.0).read file (p + F.size p c.0)) (λ b. Ok (c.0, b)) e c.2) [
          | inl d ↦ after F G f file p e c.0 (f.sound file p c.0 u c.1) ((g c.0).first file (p + F.size p c.0) e u (room F f file p c.0 h (f.sound file p c.0 u c.1).1) d)
          | inr d ↦ let z : ◌≡◌ {A = ℕ} 0 1 = cc d.2 in absurd (omega arith)
        ]
      ];
  long = λ p x. length-append _ _ ∙ (λ i. f.long p x.0 i + (g x.0).long (p + F.size p x.0) x.1 i);
  sound = λ file p x u h.
      let r = bind_ok (F.read file p) _ x h in
      let s = bind_ok ((G r.0).read file (p + F.size p r.0)) _ x r.2 in
      let e : (r.0, s.0) ≡ x = cc s.2 in
      let a = f.sound file p r.0 u r.1 in
      let b = (g r.0).sound file (p + F.size p r.0) s.0 u s.1 in
      subst (λ y. (then F G).fits y × Stands file p ((then F G).bits p y)) e (
        (a.0, b.0),
        stands_both file p (F.bits p r.0) ((G r.0).bits (p + F.size p r.0) s.0) a.1
            (subst (λ n. Stands file (p + n) ((G r.0).bits (p + F.size p r.0) s.0)) (sym (f.long p r.0)) b.1),
      );
  whole = λ file p x t h.
      let xs = F.bits p x.0 in
      let ys = (G x.0).bits (p + F.size p x.0) x.1 in
      let a = f.whole file p x.0 t.0 (stands_first file p xs ys h) in
      let b = (g x.0).whole file (p + F.size p x.0) x.1 t.1 (subst (λ n. Stands file (p + n) ys) (f.long p x.0) (stands_second file p xs ys h)) in
      ap (λ r. bind r (λ y. bind ((G y).read file (p + F.size p y)) (λ z. Ok (y, z)))) a
      ∙ ap (λ r. bind r (λ z. Ok (x.0, z))) b;
}

long_all : {A : Type 0} (F : Format A) → Exact F → (p : ℕ) (xs : List A) → length (bits_all F p xs) ≡ size_all F p xs
long_all F f p [] = refl
long_all F f p (x ∷ xs) = length-append _ _ ∙ (λ i. f.long p x i + long_all F f (p + F.size p x) xs i)

sound_all : {A : Type 0} (F : Format A) → Exact F → (n : ℕ) (file : List ℕ) (p : ℕ) (xs : List A) → AllBelowBase 2 file → read_all F n file p ≡ Ok xs → (times n F).fits xs × Stands file p (bits_all F p xs)
sound_all F f zero file p xs u h =
    let e : [] ≡ xs = cc in
    subst (λ y. (times 0 F).fits y × Stands file p (bits_all F p y)) e ((refl, tt), refl)
sound_all F f (suc n) file p xs u h =
    let r = bind_ok (F.read file p) _ xs h in
    let s = bind_ok (read_all F n file (p + F.size p r.0)) _ xs r.2 in
    let e : r.0 ∷ s.0 ≡ xs = cc s.2 in
    let a = f.sound file p r.0 u r.1 in
    let b = sound_all F f n file (p + F.size p r.0) s.0 u s.1 in
    subst (λ y. (times (suc n) F).fits y × Stands file p (bits_all F p y)) e (
      (ap suc b.0.0, (a.0, b.0.1)),
      stands_both file p (F.bits p r.0) (bits_all F (p + F.size p r.0) s.0) a.1
          (subst (λ m. Stands file (p + m) (bits_all F (p + F.size p r.0) s.0)) (sym (f.long p r.0)) b.1),
    )

whole_all : {A : Type 0} (F : Format A) → Exact F → (n : ℕ) (file : List ℕ) (p : ℕ) (xs : List A) → (times n F).fits xs → Stands file p (bits_all F p xs) → read_all F n file p ≡ Ok xs
whole_all F f zero file p [] t h = refl
whole_all F f zero file p (x ∷ xs) t h = absurd (omega (arith, t.0))
whole_all F f (suc n) file p [] t h = absurd (omega (arith, t.0))
whole_all F f (suc n) file p (x ∷ xs) t h =
    let ys = bits_all F (p + F.size p x) xs in
    let a = f.whole file p x t.1.0 (stands_first file p (F.bits p x) ys h) in
    let l : length xs ≡ n = omega (arith, t.0) in
    let b = whole_all F f n file (p + F.size p x) xs (l, t.1.1) (subst (λ m. Stands file (p + m) ys) (f.long p x) (stands_second file p (F.bits p x) ys h)) in
    ap (λ r. bind r (λ y. bind (read_all F n file (p + F.size p y)) (λ z. Ok (y ∷ z)))) a
    ∙ ap (λ r. bind r (λ z. Ok (x ∷ z))) b

-- n and one more, as one and then n
more : {A : Type 0} (F : Format A) (n : ℕ) (file : List ℕ) (p : ℕ) (e : ReadFault) → Refused (then F (λ _. times n F)) file p e → Refused (times (suc n) F) file p e
more F n file p e r = record {
  from = r.from;
  within = r.within;
  shows = r.shows;
  other = r.other.0 ∷ r.other.1;
  fits = (ap suc r.fits.1.0, (r.fits.0, r.fits.1.1));
  near = r.near;
  stands = r.stands;
}

some_all : {A : Type 0} (F : Format A) → Exact F → (n : ℕ) → (xs : List A) × (times n F).fits xs
some_all F f zero = ([], (refl, tt))
some_all F f (suc n) = let r = some_all F f n in (f.some.0 ∷ r.0, (ap suc r.1.0, (f.some.1, r.1.1)))

first_all : {A : Type 0} (F : Format A) → Exact F → (n : ℕ) (file : List ℕ) (p : ℕ) (e : ReadFault) → AllBelowBase 2 file → p ≤ length file → read_all F n file p ≡ Err e → Refused (times n F) file p e
first_all F f zero file p e u h r = let z : ◌≡◌ {A = ℕ} 0 1 = cc in absurd (omega arith)
first_all F f (suc n) file p e u h r =
    elim (bind_err (F.read file p) (λ a. bind (read_all F n file (p + F.size p a)) (λ b. Ok (a ∷ b))) e r) [
      | inl c ↦ more F n file p e (before F (λ _. times n F) f (λ _. some_all F f n) file p e (f.first file p e u h c))
      | inr c ↦
          let s = f.sound file p c.0 u c.1 in
          elim (bind_err (read_all F n file (p + F.size p c.0)) (λ b. Ok (c.0 ∷ b)) e c.2) [
            | inl d ↦ more F n file p e (after F (λ _. times n F) f file p e c.0 s (first_all F f n file (p + F.size p c.0) e u (room F f file p c.0 h s.1) d))
            | inr d ↦ let z : ◌≡◌ {A = ℕ} 0 1 = cc d.2 in absurd (omega arith)
          ]
    ]

pub times_exact : {A : Type 0} (n : ℕ) (F : Format A) → Exact F → Exact (times n F)
times_exact n F f = record {
  some = some_all F f n;
  first = first_all F f n;
  long = long_all F f;
  sound = sound_all F f n;
  whole = whole_all F f n;
}

pub via_exact : {A B : Type 0} (to : A → B) (from : B → A) (F : Format A) → Exact F → ((a : A) → F.fits a → from (to a) ≡ a) → Exact (via to from F)
via_exact to from F f back = record {
  some = (let a = f.some in let e = back a.0 a.1 in (to a.0, (subst F.fits (sym e) a.1, ap to e)));
  first = λ file p e u h r.
      elim (bind_err (F.read file p) (λ a. Ok (to a)) e r) [
        | inl c ↦
            let t = f.first file p e u h c in
            let same = back t.other t.fits in
            record {
              from = t.from;
              within = t.within;
              shows = t.shows;
              other = to t.other;
              fits = (subst F.fits (sym same) t.fits, ap to same);
              near = subst (λ a. place_of e ≤ p + F.size p a) (sym same) t.near;
              stands = subst (λ a. Stands file p (take (place_of e - p) (F.bits p a))) (sym same) t.stands;
            }
        | inr c ↦ let z : ◌≡◌ {A = ℕ} 0 1 = cc c.2 in absurd (omega arith)
      ];
  long = λ p b. f.long p (from b);
  sound = λ file p b u h.
      let r = bind_ok (F.read file p) _ b h in
      let s = f.sound file p r.0 u r.1 in
      let e : to r.0 ≡ b = cc r.2 in
      let same : r.0 ≡ from b = sym (back r.0 s.0) ∙ ap from e in
      let t = subst (λ a. F.fits a × Stands file p (F.bits p a)) same s in
      ((t.0, ap to (sym same) ∙ e), t.1);
  whole = λ file p b t h.
      ap (λ r. bind r (λ a. Ok (to a))) (f.whole file p (from b) t.0 h) ∙ ap Ok t.1;
}
