use Rattle.std.proofs.Common.{◌≡◌, ℕ, ◌<◌, Bool, ◌&&◌, eqb, ltb, List, Decides, sym, refl, ap, ◌∙◌, arith}
use Rattle.std.proofs.lemmas.Bool.{lt-ltb, eq-eqb}
use Rattle.values.specs.declared.scalar.ValueType.{ValueType}
use Rattle.sheet.specs.Page.{page}
use Rattle.player.specs.Calls.{alike}
use Rattle.player.proofs.Alike.{decided}
use Rattle.player.proofs.player.Player.serves.Goals as goal

-- where the rows are as many, the columns decide
by_columns : (n m : ℕ) (ts us ts' us' : List ValueType) (b : Bool) → 0 < n → n ≡ m → ts ≡ ts' → us ≡ us' → Decides b (ts ≡ us) → (ltb 0 n && (eqb n m && alike ts' us')) ≡ b
by_columns n m ts us ts' us' b some rows left right same =
    ap (λ t. t && (eqb n m && alike ts' us')) (lt-ltb 0 n some) ∙ ap (λ t. t && alike ts' us') (eq-eqb n m rows)
    ∙ ap (alike ts') (sym right) ∙ ap (λ l. alike l us) (sym left) ∙ sym (decided b ts us same)

pub returns-then-same : goal.returns-then-same
returns-then-same g c =
    by_columns c.args.self.now.rows (page c.args.sheet.now).rows _ _ _ _ _ (omega (arith, c.if-self-eq0.false)) (c.if-self-rows.false ∙ c.rows.ensures) c.columns.ensures c.columns-2.ensures c.same.ensures ∙ c.if-same.true

pub returns-else-same : goal.returns-else-same
returns-else-same g c =
    (refl, by_columns c.args.self.now.rows (page c.args.sheet.now).rows _ _ _ _ _ (omega (arith, c.if-self-eq0.false)) (c.if-self-rows.false ∙ c.rows.ensures) c.columns.ensures c.columns-2.ensures c.same.ensures ∙ c.if-same.false)
