use Rattle.std.proofs.Common.{◌≡◌, ◌∷◌, None, codes, ap, ◌∙◌, sym}
use Rattle.kconfig.specs.Bytes.{lines}
use Rattle.kconfig.specs.Sheets.{path_after, sheet_in}
use Rattle.std.specs.Option.{option_map}
use Rattle.runs.proofs.LastPath.{no_answers}
use Rattle.runs.proofs.sheets.sheet_of.Goals as goal

pub returns-in_err-answers : goal.returns-in_err-answers
returns-in_err-answers c =
    let four : lines c.args.text.now ≡ c.in_ok-next.field-0.now ∷ (c.in_ok-next-2.field-0.now ∷ (c.in_ok-next-3.field-0.now ∷ (c.in_ok-next-4.field-0.now ∷ c.next-4.new.self))) =
    cc (c.new-lines.ensures.lines, c.in_ok-next.ensures.steps, c.in_ok-next-2.ensures.steps, c.in_ok-next-3.ensures.steps, c.in_ok-next-4.ensures.steps) in
    let last : path_after (codes "answers=") c.in_ok-next-4.field-0.now ≡ None = sym c.path_after-3.ensures ∙ ap (option_map (λ x. x.now)) c.in_err-answers.was in
    rw c.from_residual-in_err-answers.ensures (ap sheet_in four ∙ no_answers c.in_ok-next.field-0.now c.in_ok-next-2.field-0.now c.in_ok-next-3.field-0.now c.in_ok-next-4.field-0.now c.next-4.new.self last)
