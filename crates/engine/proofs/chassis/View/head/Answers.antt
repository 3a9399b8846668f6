-- `View::head`: the request is well formed, and so is its block.
use native.Mathlib.Omega.{arith}
use mathlib.Core.Path.{refl, sym, ◌∙◌, ap}
use Rattle.rules.specs.Chassis.{cell_of}
use Rattle.words.specs.Words.{view}
use Rattle.words.proofs.Does.{sizes}
use Rattle.engine.proofs.Judging.{head-wf, head-card, head-block, owner-there, home-is, asker-is}
use Rattle.engine.proofs.chassis.View.head.Goals as goal

pub owner_cell-requires : goal.owner_cell-requires
owner_cell-requires c = let f = c.args.self.is_formed in let p = c.requires in (head-block _ f p.0 _ p.1, owner-there _ f p.0 _ p.1 _ c.home_at-home.ensures)

pub invariant_of-result : goal.invariant_of-result
invariant_of-result c =
    let f = c.args.self.is_formed in let p = c.requires in
    record {
      few_cards = let s = (sizes _ f).few-cards in omega arith;
      card_there = head-card _ f p.0 _ p.1;
      block_there = head-block _ f p.0 _ p.1;
      owner_there = owner-there _ f p.0 _ p.1 _ c.home_at-home.ensures;
      few_retries = (head-wf _ f p.0 _ p.1).retry;
      one_cell = λ e. sym (asker-is _ f p.0 _ p.1 _ c.cell_at.ensures)
          ∙ ap (λ k. cell_of (view c.args.self.words.now) k c.args.request.block) (sym e) ∙ sym c.owner_cell.ensures;
    }

pub returns : goal.returns
unfolding view
returns c =
    let f = c.args.self.is_formed in let p = c.requires in (
      refl,
      record {
        cards = c.cards.ensures;
        home = home-is _ f p.0 _ p.1 _ c.home_at-home.ensures;
        asker = sym (asker-is _ f p.0 _ p.1 _ c.cell_at.ensures);
        owner = c.owner_cell.ensures;
      },
    )
