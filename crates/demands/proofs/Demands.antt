-- The demands, from the claims below.
use Rattle.rules.proofs.Unique.{one_answer}
use Rattle.journal.proofs.EachTag.{decodes-unique}
use Rattle.journal.proofs.Puts.{puts-unique}
use Rattle.journal.proofs.Claims.{reads_back, reads_only, only_one}
use Rattle.journal.proofs.Paper.{paper_holds}
use Rattle.words.proofs.View.{view_words}
use Rattle.words.proofs.Image.{all_words_lem}
use Rattle.words.proofs.Keeps.{formed_says, start_forms, step_forms}
use Rattle.engine.proofs.Promised.{starts-unique, answers-unique}
use Rattle.engine.proofs.Went.{runs-unique}
use Rattle.engine.proofs.Joined.{next_fit, runs_end, runs_join, over_stays}
use Rattle.engine.proofs.Calls.{calls_are_coherent}
use Rattle.engine.proofs.Marked.{marked_come}
use Rattle.firmware.proofs.Laws.{fields_name}
use Rattle.firmware.proofs.Unique.{
  start-says-unique,
  event-says-unique,
  reads-unique,
  writes-unique,
  run-says-unique,
  shows-unique,
}
use Rattle.bench.proofs.Replaying.{replays-unique}
use Rattle.demands.specs.Demands.{NothingSecond, Demand1, WordsTell, Demand2, Demand3, MarkedSequences, AllDemands}
use Rattle.demands.proofs.Entries.{every-entry}
use Rattle.demands.proofs.Numbers.{by_number}
use Rattle.demands.proofs.Answered.{exactly_when, refused_leaves, as_the_rules}

pub nothing_second : NothingSecond
nothing_second = record {
  equation = one_answer;
  start = starts-unique;
  event = answers-unique;
  run = runs-unique;
  bytes = puts-unique;
  tag = decodes-unique;
  c_start = start-says-unique;
  c_event = event-says-unique;
  c_read = reads-unique;
  c_write = writes-unique;
  c_run = run-says-unique;
  c_look = shows-unique;
  replay = replays-unique;
}

pub demand-1 : Demand1
demand-1 = record {
  entries = every-entry;
  by_number = by_number;
  exactly_when = exactly_when;
  refused_leaves = refused_leaves;
  nothing_second = nothing_second;
}

pub words_tell : WordsTell
words_tell = record {
  view_words = view_words;
  all_words = all_words_lem;
  formed_says = formed_says;
  start_forms = start_forms;
  step_forms = step_forms;
}

pub demand-2 : Demand2
demand-2 = record {
  as_the_rules = as_the_rules;
  words_tell = words_tell;
  reads_back = reads_back;
  fields_name = fields_name;
  only_one = only_one;
  reads_only = reads_only;
  runs_join = runs_join;
  runs_end = runs_end;
  next_fit = next_fit;
  over_stays = over_stays;
  paper_holds = paper_holds;
}

pub demand-3 : Demand3
demand-3 = record { calls_coherent = calls_are_coherent }

pub marked-sequences : MarkedSequences
marked-sequences = record { marked_come = marked_come }

pub all-demands : AllDemands
all-demands = record {
  first = demand-1;
  second = demand-2;
  third = demand-3;
  marked = marked-sequences;
}
