-- The marked sequences hold of the rules: antt plays them.
use mathlib.Core.Path.{refl}
use Rattle.rules.specs.Tests.{each, any, all, some, all_of}
use Rattle.rules.specs.Lists.{replace, removed, keep}
use Rattle.rules.specs.Masks.{has, only, every, union, without, inside}
use Rattle.rules.specs.Mask.{sharers_named, suffices}
use Rattle.rules.specs.Table.{
  loads,
  stores,
  asked,
  sees_gets,
  sees_getx,
  drops,
  waits,
  is_reader,
  can_give,
  comes_from,
  upgrades,
  put_stands,
  leaves_sharers,
  granted_to,
  filled_to,
}
use Rattle.rules.specs.Answers.{refused_by}
use Rattle.rules.specs.Order.{
  held,
  impossible,
  no_room_for,
  order_reasons,
  turn,
  giver,
  given,
  keeps,
  upshot_of,
  sees,
  ordered,
  data_for,
  retry_mask,
  retried,
  order_head,
  order,
}
use Rattle.rules.specs.Formed.{
  sizes,
  home_or_card,
  ok_cell,
  unused_cell,
  ok_block,
  unused_block,
  ok_request,
  ok_message,
  well_formed,
}
use Rattle.rules.specs.Events.{
  no_card,
  no_block,
  right_reasons,
  no_message,
  reasons,
  ask,
  live,
  deliver,
  rejoin_block,
  rejoin,
  effect,
  step,
  start,
}
use Rattle.rules.specs.Marked.{plays, marked_table, slips}
use Rattle.rules.specs.Claims.{MarkedHold, SlipsHold}

-- all of the rules: who unfolds this unfolds each of them
unfoldable pub the-rules : Unit {0}
unfolding each any all some all_of replace removed keep has only every union without inside loads stores
    asked sees_gets sees_getx drops waits is_reader can_give comes_from upgrades put_stands leaves_sharers granted_to filled_to
    refused_by held impossible no_room_for order_reasons sharers_named suffices turn giver given keeps upshot_of sees ordered data_for retry_mask retried
    order_head order sizes home_or_card ok_cell unused_cell ok_block unused_block ok_request ok_message well_formed
    no_card no_block right_reasons no_message reasons ask live deliver rejoin_block rejoin effect step start
the-rules = tt

pub marked-hold : MarkedHold
unfolding the-rules plays marked_table
marked-hold = refl

pub slips-hold : SlipsHold
unfolding the-rules plays slips
slips-hold = refl
