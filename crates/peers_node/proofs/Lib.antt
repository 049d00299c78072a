mod Choices
mod NamesApart
mod Numbers
