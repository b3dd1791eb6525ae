use Rattle.std.proofs.Common.{◌≡◌, ◌*◌, ◌/◌, ◌<◌, min, ℕ, length, get_or, take, drop, sym, ap, ◌∙◌, arith, rules}
use Rattle.draft.proofs.Names.{name_bad, name_cut, name_ok}
use Rattle.draft.proofs.cursor.Cursor.name.Goals as goal

pub returns-in-Some : goal.returns-in-Some
returns-in-Some c =
    let k = c.args.self.now.at / 8 in
    let fit : (i : ℕ) → get_or (drop k c.args.self.now.file.now) i 0 < 256 = λ i. search rules in
    let here : c.args.self.now.at ≡ 8 * k = omega arith in
    let least : c.min.result ≡ min (length (drop k c.args.self.now.file.now)) c.args.count = c.min.ensures ∙ (λ i. min (length (c.rest-rest.ensures i)) (c.from.ensures i)) in
    let found = sym c.unprintable.ensures ∙ c.in-Some.is in
    name_bad c.args.self.now.file.now k c.args.self.now.at fit here c.args.count c.min.result _ least (ap (take c.min.result) c.rest-rest.ensures) c.in-Some.i found

pub returns-then-name-from : goal.returns-then-name-from
returns-then-name-from c =
    let k = c.args.self.now.at / 8 in
    let fit : (i : ℕ) → get_or (drop k c.args.self.now.file.now) i 0 < 256 = λ i. search rules in
    let here : c.args.self.now.at ≡ 8 * k = omega arith in
    let least : c.min.result ≡ min (length (drop k c.args.self.now.file.now)) c.args.count = c.min.ensures ∙ (λ i. min (length (c.rest-rest.ensures i)) (c.from.ensures i)) in
    let none = sym c.unprintable.ensures ∙ c.in_default.is in
    name_cut c.args.self.now.file.now k c.args.self.now.at fit here c.args.count c.min.result _ least (ap (take c.min.result) c.rest-rest.ensures) none (omega arith)

pub returns : goal.returns
returns c =
    let k = c.args.self.now.at / 8 in
    let fit : (i : ℕ) → get_or (drop k c.args.self.now.file.now) i 0 < 256 = λ i. search rules in
    let here : c.args.self.now.at ≡ 8 * k = omega arith in
    let least : c.min.result ≡ min (length (drop k c.args.self.now.file.now)) c.args.count = c.min.ensures ∙ (λ i. min (length (c.rest-rest.ensures i)) (c.from.ensures i)) in
    let none = sym c.unprintable.ensures ∙ c.in_default.is in
    name_ok c.args.self.now.file.now k c.args.self.now.at fit here c.args.count c.min.result _ least (ap (take c.min.result) c.rest-rest.ensures) none (omega arith)
