-- The commands `run [--arena N] [--first] [--workers N] FILE...`, `fill N`, `check FILE`, `prove K FILE`,
-- `import NAME CSV FILE` and `export NAME FILE`, as the crate clap defines what they take.
use Rattle.std.specs.Prelude.{List, [], ◌∷◌, Option, Some, None, true, codes, option_map}
use Rattle.clap.specs.Words.{App, Kinds, Row, Rule, Text, fault_of, found_of, matches_of, new_app, new_rule, rows_of, with_rule}
use Rattle.clap.specs.declared.builder.ArgAction.TheVariants.{Set, Append, SetTrue}
use Rattle.clap.specs.declared.parser.matches.ArgMatches.{ArgMatches}

-- the option with the capacity of the log
abbrev pub arena : Rule
arena = record (new_rule (codes "arena")) {
  long = Some (codes "arena");
  action = Some Set;
  defaults = codes "262144" ∷ [];
}

-- the flag that lets the first file's session come to its end before the others begin
abbrev pub first : Rule
first = record (new_rule (codes "first")) { long = Some (codes "first"); action = Some SetTrue }

-- the option with the number of workers
abbrev pub workers : Rule
workers = record (new_rule (codes "workers")) {
  long = Some (codes "workers");
  action = Some Set;
  defaults = codes "1" ∷ [];
}

-- the files to run
abbrev pub file : Rule
file = record (new_rule (codes "file")) {
  required = true;
  action = Some Append;
  range = Some (record { start_inclusive = 1; end_inclusive = 18446744073709551615 });
}

-- one value, which has to be there
abbrev pub one : Text → Rule
one name = record (new_rule name) { required = true; action = Some Set }

-- a command without a name of the program before its words, and without flags of its own
abbrev pub plain : Text → App
plain name = let a = new_app name in record a {
  top = record a.top {
    no_binary_name = true;
    disable_help_flag = true;
    disable_version_flag = true;
  };
}

unfoldable pub run_app : App
run_app = with_rule (with_rule (with_rule (with_rule (plain (codes "run")) arena) first) workers) file

unfoldable pub fill_app : App
fill_app = with_rule (plain (codes "fill")) (one (codes "n"))

unfoldable pub check_app : App
check_app = with_rule (plain (codes "check")) (one (codes "file"))

unfoldable pub prove_app : App
prove_app = with_rule (with_rule (plain (codes "prove")) (one (codes "reply"))) (one (codes "file"))

unfoldable pub import_app : App
import_app = with_rule (with_rule (with_rule (plain (codes "import")) (one (codes "name"))) (one (codes "csv"))) (one (codes "file"))

unfoldable pub export_app : App
export_app = with_rule (with_rule (plain (codes "export")) (one (codes "name"))) (one (codes "file"))

-- the rows, unless a kind of fault may come
abbrev pub unless_fault : Kinds → List Row → Option (List Row)
unless_fault [] rows = Some rows
unless_fault (kind ∷ kinds) rows = None

-- what a command finds in the words, where it takes them
unfoldable pub found : App → List Text → Option (List Row)
found app words = unless_fault (fault_of app words) (matches_of app words)

-- the rows of matches
abbrev pub rows_in : Option ArgMatches → Option (List Row)
rows_in matches = option_map (λ m. rows_of (found_of m)) matches
