-- `sees::cards_see`: the cards below the one reached have seen the request.
use Rattle.words.proofs.Seeing.{Seen}
use Rattle.engine.proofs.sees.cards_see.Given as goal

abbrev pub invariant-loop-card : goal.invariant-loop-card
invariant-loop-card l = Seen l.initial.s l.turn l.number l.head.request l.head.home.owner l.card l.s
