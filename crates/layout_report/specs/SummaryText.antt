-- what is told of a layout that was made
use Rattle.std.specs.Prelude.{ℕ, ◌+◌, List, [], ◌∷◌, ◌++◌, codes, Option, None, Some}
use Rattle.std.specs.Fmt.{decimal}
use Rattle.greedy_router.specs.declared.sweep.By.{By}
use Rattle.greedy_router.specs.declared.sweep.By.TheVariants.{Greedy, Plain, Edge}
use Rattle.shelf_io.specs.Lines.{line}
use Rattle.layout_report.specs.declared.summary.ChannelLine.{ChannelLine}
use Rattle.layout_report.specs.declared.summary.Summary.{Summary}
use Rattle.layout_report.specs.declared.summary.Taken.{Taken}

-- lines of words, one after another
abbrev pub lines_text : List (List (List ℕ)) → List ℕ
lines_text [] = []
lines_text (words ∷ more) = line words ++ lines_text more

-- the router of a channel
abbrev pub by_word : By → List ℕ
by_word Greedy = codes "greedy"
by_word Plain = codes "plain"
by_word Edge = codes "edge"

-- the line of a channel of this number
unfoldable pub channel_text : ℕ → ChannelLine → List ℕ
channel_text n c =
    line (codes "channel" ∷ decimal n ∷ codes "tracks" ∷ decimal c.tracks ∷ codes "extra" ∷ decimal c.extra ∷ by_word c.by ∷ [])

-- the lines of channels, of which the first has this number
abbrev pub channels_text : ℕ → List ChannelLine → List ℕ
channels_text n [] = []
channels_text n (c ∷ channels) = channel_text n c ++ channels_text (n + 1) channels

-- the words of the lines before those of the channels, and behind them
unfoldable pub count_words : Summary → List (List (List ℕ))
count_words s =
    (codes "cells" ∷ decimal s.cells ∷ []) ∷ (codes "nets" ∷ decimal s.nets ∷ []) ∷ (codes "rows" ∷ decimal s.rows ∷ []) ∷ (codes "feeds" ∷ decimal s.feeds ∷ []) ∷ []

unfoldable pub end_words : Summary → List (List (List ℕ))
end_words s = (codes "size" ∷ decimal s.width ∷ decimal s.height ∷ []) ∷ (codes "cost" ∷ decimal s.cost ∷ []) ∷ []

-- the words of the line of the placement that was taken, where there were several
abbrev pub taken_words : Option Taken → List (List (List ℕ))
taken_words None = []
taken_words (Some t) = (codes "taken" ∷ codes "rows" ∷ decimal t.rows ∷ codes "seed" ∷ decimal t.seed ∷ []) ∷ []

-- the lines of a summary
unfoldable pub summary_text : Summary → List ℕ
summary_text s = lines_text (count_words s) ++ (channels_text 0 s.channels ++ (lines_text (end_words s) ++ lines_text (taken_words s.taken)))
