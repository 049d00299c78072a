mod ConfigurationEndings
mod Printing
mod SceneLaws
mod NewWorlds
mod WorldPrinting
