-- Every definition that a worked case computes with. Who unfolds `all-open` unfolds them all, so that they are listed here alone; but for
-- `rounded`, which only the case of a price looks into.
use Rattle.base.specs.Words
use Rattle.graph.specs.Walks
use Rattle.stacks.specs.Stack
use Rattle.stacks.specs.Index
use Rattle.stacks.specs.Turn
use Rattle.stacks.specs.Operations
use Rattle.search.specs.Entries
use Rattle.search.specs.Segments
use Rattle.search.specs.Terms
use Rattle.search.specs.JobState
use Rattle.search.specs.Begin
use Rattle.search.specs.Blank
use Rattle.search.specs.Marks
use Rattle.search.specs.Logs
use Rattle.search.specs.Refusals
use Rattle.search.specs.Expand
use Rattle.search.specs.Settle
use Rattle.search.specs.Look
use Rattle.search.specs.Changed
use Rattle.search.specs.Load
use Rattle.search.specs.Sweep
use Rattle.search.specs.Close
use Rattle.search.specs.Plan
use Rattle.search.specs.Build
use Rattle.search.specs.Promise
use Rattle.search.specs.Drive
use Rattle.tariff.specs.Tariffs
use Rattle.tariff.specs.Price
use Rattle.worked.specs.Cases
use Rattle.worked.specs.PlainThree
use Rattle.worked.specs.Reverse

words : Unit {0}
unfolding Walks.is_move Words.all Words.any Words.tally Words.filter Words.total Words.largest Words.fact Words.from Words.without Words.first_from
words = tt

stacks : Unit {0}
unfolding Stack.is_kind Stack.is_coated Stack.fewest_panes Stack.most_panes Stack.is_pane_count Stack.order_of Stack.each_once Stack.is_unused Stack.is_stack Stack.ordered Stack.coatings Stack.stack_count
stacks = tt

indexes : Unit {0}
unfolding Index.smaller Index.rank_from Index.coat Index.coat_bits Index.rank_of Index.order_at Index.pane_with Index.coated_by Index.stack_at
indexes = tt

turns : Unit {0}
unfolding Turn.first_turn Turn.last_turn Turn.is_turn Turn.turns_of Turn.lifts Turn.is_group_set Turn.turns_in Turn.all_groups Turn.flip Turn.turn_of Turn.move_of Turn.moves_from
turns = tt

operations : Unit {0}
unfolding Operations.kind_refusal Operations.index_refusal Operations.stack_refusal Operations.turn_refusal Operations.index_of Operations.stack_of Operations.turned_of
operations = tt

entries : Unit {0}
unfolding Entries.digit Entries.with_digit Entries.entry_at Entries.set_entry Entries.unseen Entries.next_entry Entries.seen_in Entries.bytes_for Entries.blank
entries = tt

segments : Unit {0}
unfolding Segments.segment_count Segments.stack_count_in Segments.is_segment_size Segments.is_log_room Segments.joined
segments = tt

jobs : Unit {0}
unfolding JobState.stack_count_of JobState.segment_count_of JobState.stack_count_at JobState.log_length JobState.passed_of JobState.waiting_of JobState.count_of JobState.swept_of JobState.is_loaded JobState.is_swept JobState.progressed JobState.recounted JobState.directed
jobs = tt

phases : Unit {0}
unfolding JobState.is_blanking JobState.is_level JobState.is_finished JobState.is_reverse JobState.in_forward JobState.in_reverse JobState.level_of JobState.phase_fits
phases = tt

coherence : Unit {0}
unfolding Terms.begin_refusal JobState.count_limit JobState.segment_fits JobState.count_in_limit JobState.counts_fit JobState.swept_fits JobState.loaded_fits JobState.is_coherent
coherence = tt

begins : Unit {0}
unfolding Begin.begun Begin.begin_of
begins = tt

blanks : Unit {0}
unfolding Blank.blank_refusal Blank.goal_of Blank.blanked Blank.blank_of
blanks = tt

marks : Unit {0}
unfolding Marks.counted Marks.found_one Marks.mark_one Marks.mark_all
marks = tt

logs : Unit {0}
unfolding Logs.log_part Logs.indexes_of Logs.pending Logs.log_one Logs.falling_in Logs.lacks_room
logs = tt

expands : Unit {0}
unfolding Refusals.call_refusal Refusals.segment_refusal Refusals.level_refusal Expand.expand_refusal Expand.is_parent Expand.children_of Expand.expansion Expand.expanded_job Expand.expand_of
expands = tt

expand-runs : Unit {0}
unfolding Expand.place_child Expand.place_all Expand.pass_one Expand.wait_for Expand.expand_stack Expand.expand_next Expand.expand_run
expand-runs = tt

settles : Unit {0}
unfolding Settle.settle_refusal Settle.settle_of
settles = tt

looks : Unit {0}
unfolding Look.look_refusal Look.look_of
looks = tt

closes : Unit {0}
unfolding Close.is_done Close.is_swept_whole Close.is_ready Close.is_past_last Close.close_refusal Close.next_phase Close.next_counts Close.closed Close.close_of
closes = tt

lists : Unit {0}
unfolding Changed.list_bytes Changed.bit_at Changed.byte_of Changed.list_of Load.load_refusal Load.changed_of Load.load_of
lists = tt

sweeps : Unit {0}
unfolding Sweep.sweep_refusal Sweep.is_changed Sweep.is_reached Sweep.reached_in Sweep.with_pair Sweep.sweep_of
sweeps = tt

plans : Unit {0}
unfolding Plan.plan_row Plan.plan_refusal Plan.has_plan Plan.plan_of
plans = tt

routes : Unit {0}
unfolding Plan.entry_of Plan.leads_to Plan.turn_to Plan.nearer_entry Plan.follow Plan.is_wanted Plan.plan_step Plan.plan_run Plan.route_from
routes = tt

builds : Unit {0}
unfolding Build.lent Build.kept Build.lent_list Build.is_load_due Build.is_own Build.is_lent_own Build.outcome Build.after Promise.right_bytes Promise.right_words
builds = tt

drives : Unit {0}
unfolding Drive.is_open Drive.is_pending Drive.is_unswept Drive.first_open Drive.first_pending Drive.first_unswept Drive.first_pair Drive.is_few Drive.way_after Drive.list_bytes_at Drive.next_blank Drive.next_forward Drive.next_load Drive.next_reverse Drive.next_call Drive.advanced Drive.has_ended Drive.drive Drive.most_calls
drives = tt

whole-tables : Unit {0}
unfolding Drive.cut Drive.held Drive.laid Drive.build_refusal Drive.ended Drive.built Drive.build_of
whole-tables = tt

tariffs : Unit {0}
unfolding Tariffs.tariff_lines Tariffs.is_line Tariffs.covers Tariffs.lines_at Tariffs.has_line Tariffs.has_no_second Tariffs.cover_refusal Tariffs.tariff_refusal Tariffs.price_at
tariffs = tt

prices : Unit {0}
unfolding Price.cost_of Price.price_refusal Price.price_of
prices = tt

cases : Unit {0}
unfolding Cases.any_list Cases.too_long Cases.refusals Cases.blank_all Cases.search_level Cases.search_levels Cases.sweep_level Cases.start_of Cases.end_of Cases.whole PlainThree.start PlainThree.early PlainThree.calls Reverse.mixed Reverse.onward
cases = tt

unfoldable pub all-open : Unit {0}
unfolding words stacks indexes turns operations entries segments jobs phases coherence begins blanks marks logs expands expand-runs settles looks lists sweeps closes plans routes builds drives whole-tables tariffs prices cases
all-open = tt
