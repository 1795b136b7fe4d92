-- The text of a table's figures.
use Rattle.std.specs.Prelude.{ℕ, zero, suc, ◌*◌, ◌/◌, ◌%◌, List, [], ◌++◌, length, codes, decimal}
use Rattle.std.specs.Prelude.{slice_index}
use Rattle.sdf_file.specs.Designs.{DesignValue}
use Rattle.sdf_texts.specs.Texts.{end}
use Rattle.sdf_texts.specs.Schedules.{link_text}
use Rattle.sdf_analyze.specs.declared.lines.TheConstants.{SAMPLE_BYTES}
use Rattle.sdf_analyze.specs.Figures.{FiguresValue}

-- the first n lines
abbrev pub lines_to : (ℕ → List ℕ) → ℕ → List ℕ
lines_to line zero = []
lines_to line (suc n) = lines_to line n ++ line n

-- a part in hundredths of the whole, rounded down; 0 if the whole is 0
abbrev pub hundredths : ℕ → ℕ → ℕ
hundredths part whole = part * 100 / whole

-- n hundredths as a decimal number with two digits behind the point
abbrev pub with_point : ℕ → List ℕ
with_point n = decimal (n / 100) ++ codes "." ++ decimal (n / 10 % 10) ++ decimal (n % 10)

abbrev pub number_line : List ℕ → ℕ → List ℕ
number_line word n = word ++ codes " " ++ decimal n ++ end

unfoldable pub time_lines : FiguresValue → List ℕ
time_lines f =
    number_line (codes "makespan") f.makespan ++ number_line (codes "work") f.work
    ++ number_line (codes "span") f.span ++ number_line (codes "bound") f.bound

-- the work over the makespan, and the number of workers
unfoldable pub speedup_line : FiguresValue → List ℕ
speedup_line f =
    codes "speedup " ++ with_point (hundredths f.work f.makespan) ++ codes " of " ++ decimal (length f.loads) ++ end

-- the part of the makespan in which worker k fires
abbrev pub worker_line : FiguresValue → ℕ → List ℕ
worker_line f k =
    codes "worker " ++ decimal k ++ codes " " ++ decimal (hundredths (slice_index f.loads k) f.makespan)
    ++ codes " %" ++ end

-- n samples, and their size in bytes
abbrev pub samples_text : ℕ → List ℕ
samples_text n = decimal n ++ codes ", " ++ decimal (n * SAMPLE_BYTES) ++ codes " bytes" ++ end

-- the capacity of link c: the most samples that it holds
unfoldable pub link_held_line : DesignValue → List ℕ → ℕ → List ℕ
link_held_line d caps c = codes "capacity " ++ link_text d c ++ codes " " ++ samples_text (slice_index caps c)

unfoldable pub held_line : FiguresValue → List ℕ
held_line f = codes "samples held " ++ samples_text f.held

-- the text that `analyze` prints for figures and capacities: times, workers, samples, and the links in file order
abbrev pub analysis_text : DesignValue → FiguresValue → List ℕ → List ℕ
analysis_text d f caps =
    time_lines f ++ speedup_line f ++ lines_to (worker_line f) (length f.loads) ++ held_line f
    ++ lines_to (link_held_line d caps) (length d.net.wires)
