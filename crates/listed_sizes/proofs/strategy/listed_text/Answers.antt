use Rattle.std.proofs.Common.{◌∙◌, ◌++◌, codes, ap, sym, List, ℕ}
use Rattle.checker.proofs.LegalText.{listed_is_spellable}
use Rattle.listed_sizes.proofs.TextLemmas.{plain_parts, rest_text, text_put}
use Rattle.listed_sizes.proofs.strategy.listed_text.Goals as goal

pub text_of-requires : goal.text_of-requires
text_of-requires c = listed_is_spellable c.args.listed.now.sizes c.args.listed.now.strategy c.requires.legal

pub after_game-requires : goal.after_game-requires
after_game-requires c =
    let rest : List ℕ = rest_text c.args.listed.now.strategy in (
      rest,
      c.in_ok-whole.ensures.exact ∙ plain_parts c.args.listed.now.strategy c.requires.legal.of_format
          ∙ ap (λ (game : List ℕ). codes "stretch 1\n" ++ (game ++ rest)) (sym (c.as_str.ensures.value ∙ c.in_ok-game.ensures)),
    )

pub returns : goal.returns
returns c =
    let strategy = c.args.listed.now.strategy in
    let rest : List ℕ = rest_text strategy in
    let whole = c.in_ok-whole.ensures.exact ∙ plain_parts strategy c.requires.legal.of_format
    ∙ ap (λ (game : List ℕ). codes "stretch 1\n" ++ (game ++ rest)) (sym (c.as_str.ensures.value ∙ c.in_ok-game.ensures)) in
    record {
      text = text_put c.args.listed.now.sizes strategy c.new-text.result _ _ _ _ c.as_bytes.result.now c.after_game.result.now c.requires.legal.of_format c.new-text.ensures.empty
          c.in_ok-push_all.ensures.ok c.in_ok-push_all-2.ensures.ok (c.as_bytes.ensures.value ∙ c.in_ok-game.ensures)
          (rw c.as_slice.ensures.value at c.in_ok-put_sizes.ensures) c.in_ok-push_all-3.ensures.ok (c.after_game.ensures rest whole);
    }
