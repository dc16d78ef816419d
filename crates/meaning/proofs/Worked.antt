-- The worked jobs of document 01 that are marked P: one theorem, that the checker computes over the whole table. And likewise the table of the
-- readings that look right.
-- Assumes nothing.
use mathlib.Core.Path.{◌≡◌, refl}
use mathlib.Core.Bool.{true}
use Rattle.meaning.specs.Base.{find, lowest_from, kept_from, count, concat_map, bytes_of, zeros}
use Rattle.meaning.specs.Forests.{join, size, trees, forest_words, same_words, passes, select, children, below}
use Rattle.meaning.specs.Types.{kind_of, fields_of, entry_of, head_of, name_of}
use Rattle.meaning.specs.Reach.{steps_of, mark, sweep, sweeps, reaches_name, atoms_below}
use Rattle.meaning.specs.Shapes.{expand, shape_in, none, many, allowing, comma, bar, dot, quant, is_atoms}
use Rattle.meaning.specs.Records.{forms, fields_at, record_at, all_fit, put, read_record, read_from, read_records}
use Rattle.meaning.specs.Checks.{check_root, check_types, tangled, check_vars, named, check_uses, check_job, read_job}
use Rattle.meaning.specs.Queries.{expand_cond, expand_query, cond_in, query_in}
use Rattle.meaning.specs.Rules.{prime, content, sift, filter, child_rule, times, unions, star_of, dos_rule}
use Rattle.meaning.specs.Typing.{type_cond, for_rule, type_of, type_tables, type_job}
use Rattle.meaning.specs.Answers.{answer_file, answer_job}
use Rattle.meaning.specs.Values.{value_at, read_forest, read_value, read_values, odd, load_values, joined}
use Rattle.meaning.specs.Running.{holds, for_each, eval, run_job}
use Rattle.meaning.specs.Worked.{rows, all_agree}
use Rattle.meaning.specs.Readings.{readings}

-- with this name on its `unfolding` line a theorem computes with every definition of specs/
unfoldable pub everything : Unit {0}
unfolding all_agree find lowest_from kept_from count concat_map bytes_of zeros join size trees forest_words same_words passes select children below kind_of fields_of entry_of head_of name_of steps_of mark sweep sweeps reaches_name atoms_below expand shape_in none many allowing comma bar dot quant is_atoms forms fields_at record_at all_fit put read_record read_from read_records check_root check_types tangled check_vars named check_uses check_job read_job expand_cond expand_query cond_in query_in prime content sift filter child_rule times unions star_of dos_rule type_cond for_rule type_of type_tables type_job answer_file answer_job value_at read_forest read_value read_values odd load_values joined holds for_each eval run_job
everything = tt

pub worked : all_agree rows ≡ true
unfolding everything rows
worked = refl

pub readings_right : all_agree readings ≡ true
unfolding everything readings
readings_right = refl
