use Rattle.std.proofs.Common.{◌≡◌, length, Ok, Err, sym, ap, ◌∙◌, subst}
use Rattle.sheet.specs.Page.{Page, page, since, struck_since}
use Rattle.sheet.specs.Rows.{first_rows, rows_of}
use Rattle.sheet.specs.Calls.{back, lowest}
use Rattle.sheet.specs.Laws.{SameBelow, Lowest}
use Rattle.sheet.proofs.Overlays.{cut_below}
use Rattle.sheet.proofs.Undoing.{lowest_is, undoes_trial, refused_trial}
use Rattle.sheet.proofs.sheet.Sheet.strike_since.Goals as goal
use Rattle.sheet.proofs.sheet.Sheet.strike_since.Goals.{After-end_trial}

pub returns-in-Some-clause-undoes : goal.returns-in-Some-clause-undoes
returns-in-Some-clause-undoes c =
    let p = page c.args.self.now in
    refused_trial p p c.args.slip (Err (back c.in-Some.fault c.args.slip)) c.in-Some.fault c.in-Some.ensures

low_is : (c : After-end_trial) → c.end_trial.result ≡ lowest (since (page c.args.self.now) c.args.slip.standing)
low_is c = c.end_trial.ensures.low ∙ ap (λ n. lowest (since (page c.args.self.now) n)) c.spend-standing.ensures

now_is : (c : After-end_trial) → page c.end_trial.new.self ≡ struck_since (page c.args.self.now) c.args.slip.standing
now_is c = c.end_trial.ensures.left ∙ ap (struck_since (page c.args.self.now)) c.spend-standing.ensures

pub returns-clause-lowest : goal.returns-clause-lowest
returns-clause-lowest c =
    let gone = since (page c.args.self.now) c.args.slip.standing in
    subst (Lowest gone) (sym (low_is c)) (lowest_is gone)

pub returns-clause-rows : goal.returns-clause-rows
returns-clause-rows c =
    let p = page c.args.self.now in
    let low = c.end_trial.result in
    let P : Page → Type 0 = λ q. SameBelow low (rows_of p) (rows_of q) in
    subst P (sym (now_is c)) (cut_below (first_rows (length p.columns) p.first) p.writes c.args.slip.standing low (low_is c))

pub returns-clause-undoes : goal.returns-clause-undoes
returns-clause-undoes c =
    let p = page c.args.self.now in
    undoes_trial p (page c.end_trial.new.self) c.args.slip (Ok c.end_trial.result) (now_is c) (ap Ok (low_is c))
